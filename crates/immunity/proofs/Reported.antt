-- The degree that is reported.
--   FirstDiffers ..   k is the first degree at which a side differs, and no annihilator has a smaller degree
--   unequal_differs   a side differs where the ranks are unequal, and nowhere else
--   equal_differs     it does not where they are equal, and nowhere else
--   equal_just        equal ranks mean that there is no annihilator up to the degree
--   outside_differs   at degree n a side differs whose part misses a point of the set
--   reported_first    a degree that is reported is that
--   reports           where the set has a point a degree is reported, and is that
--   filter_reports    the same of a filter whose set has a point
use mathlib.Core.Path.{◌≡◌, refl, sym, ◌∙◌}
use mathlib.Core.Bool.{Bool, true, false, ◌||◌, or-true, false≢true}
use mathlib.Core.List.{List, Memᴰ}
use Rattle.std.specs.Prelude.{Some}
use mathlib.Core.Logic.{◌↔◌, ◌⊎◌, inl, inr}
use Prim.Native.Nat.{ℕ, zero, suc, ◌+◌, ◌≤◌, ◌<◌}
use native.Mathlib.Omega.{arith}
use native.Mathlib.Decide.{dec_lt}
use lib.Dec.{eqb}
use lib.ListN.{get_or}
use borrow.Author.Tests.{eqb-true, eq-eqb, ne_eqb, not-false}
use Rattle.cube.specs.NumberLists.{below, is_empty, Inside}
use Rattle.cube.specs.Cube.{size}
use Rattle.cube.specs.Mask.{points}
use Rattle.order.specs.Order.{Graded}
use Rattle.cube.proofs.Listed.{member_select, some_member}
use Rattle.cube.proofs.Masks.{points_inside}
use Rattle.gf2.proofs.Each.{member_each}
use Rattle.polynomial.specs.Polynomial.{Polynomial, value, UpTo}
use Rattle.polynomial.proofs.Value.{only, only_value, up_to_all}
use Rattle.matrix.proofs.Rising.{below_rising}
use Rattle.filter.specs.Filter.{Filter}
use Rattle.filter.specs.Part.{part}
use Rattle.filter.proofs.Filters.{few_taps}
use Rattle.immunity.specs.Judgement.{EqualRanks, differs, either_differs, reported}
use Rattle.immunity.specs.Annihilator.{Annihilator}
use Rattle.immunity.proofs.First.{first_found}
use Rattle.immunity.proofs.FirstUpTo.{degree_below, first_degree}
use Rattle.immunity.proofs.Equal.{equal_none}
use Rattle.immunity.proofs.PartPoints.{part_among}

-- k is the first degree at which a side differs, and no annihilator has a smaller degree
pub record FirstDiffers (o : List ℕ) (n : ℕ) (s f : List ℕ) (k : ℕ) : Type 0 where
  pub within : k ≤ n
  pub before : (side d : ℕ) → side ≤ 1 → d < k → EqualRanks o n s f side d
  pub at : (¬ EqualRanks o n s f 1 k) ⊎ (¬ EqualRanks o n s f 0 k)
  pub least : (side d : ℕ) (p : Polynomial) → side ≤ 1 → Annihilator n p (part side s f) (points s) → UpTo n d p → k ≤ d

module _ (o : List ℕ) (n : ℕ) (s f : List ℕ) (d side : ℕ) where
  -- a side differs where the ranks are unequal
  pub unequal_differs : (differs o n s f d side ≡ true) ↔ (¬ EqualRanks o n s f side d)
  unfolding differs
  unequal_differs = (λ h e. false≢true (rw (eq-eqb _ _ e) at h), λ h. rw (ne_eqb _ _ h))

  -- it does not where they are equal
  pub equal_differs : (differs o n s f d side ≡ false) ↔ EqualRanks o n s f side d
  unfolding differs
  equal_differs = (λ h. eqb-true _ _ (not-false _ h), λ e. rw (eq-eqb _ _ e))

-- neither of two tests holds
neither : (a b : Bool) → (a || b) ≡ false → (a ≡ false) × (b ≡ false)
neither true b h = absurd (false≢true (sym h))
neither false b h = (refl, h)

-- one of two tests holds
either : (a b : Bool) → (a || b) ≡ true → (a ≡ true) ⊎ (b ≡ true)
either true b h = inl refl
either false b h = inr h

module _ {o : List ℕ} (g : Graded o) {n : ℕ} (small : n ≤ 9) (s f : List ℕ) where
  -- equal ranks mean that there is no annihilator up to the degree
  pub equal_just : (side d : ℕ) → EqualRanks o n s f side d ↔ ((p : Polynomial) → UpTo n d p → ¬ Annihilator n p (part side s f) (points s))
  equal_just side d = equal_none g small d (points s) (part side s f) (part_among side s f)

  -- where the test of both sides fails, the ranks of both are equal
  both_equal : (d : ℕ) → either_differs o n s f d ≡ false → (side : ℕ) → side ≤ 1 → EqualRanks o n s f side d
  both_equal d h zero l = (equal_differs o n s f d 0).0 (neither (differs o n s f d 1) (differs o n s f d 0) h).1
  both_equal d h (suc zero) l = (equal_differs o n s f d 1).0 (neither (differs o n s f d 1) (differs o n s f d 0) h).0
  both_equal d h (suc (suc side)) l = absurd (omega arith)

  -- the first degree at which a side differs
  first_reports : (k : ℕ) → k ≤ n → ((d : ℕ) → d < k → either_differs o n s f d ≡ false)
      → either_differs o n s f k ≡ true → FirstDiffers o n s f k
  first_reports k l b h = record {
    within = l;
    before = before;
    at = elim (either (differs o n s f k 1) (differs o n s f k 0) h) [ inl e ↦ inl ((unequal_differs o n s f k 1).0 e) | inr e ↦ inr ((unequal_differs o n s f k 0).0 e) ];
    least = λ side j p m c u. elim (dec_lt j k) [ yes i ↦ absurd ((equal_just side j).0 (before side j m i) p u c) | no i ↦ omega arith ];
  }
    where
      before : (side d : ℕ) → side ≤ 1 → d < k → EqualRanks o n s f side d
      before side d m i = both_equal d (b d i) side m

  -- a degree that is reported is the first at which a side differs
  pub reported_first : (k : ℕ) → reported o n s f ≡ Some k → FirstDiffers o n s f k
  unfolding reported
  reported_first k e = let r = (first_degree (either_differs o n s f) n k).0 e in first_reports k r.within r.before r.passes

  module _ (inside : Inside (size n) (points s)) (a : ℕ) (point : Memᴰ a (points s)) where
    -- at degree n a side whose part misses a point differs: a polynomial is one just there
    pub outside_differs : (side : ℕ) → eqb (get_or f a 0) side ≡ false → ¬ EqualRanks o n s f side n
    outside_differs side h e = (equal_just side n).0 e (only n a) (up_to_all n (only n a)) (record {
      zero = member_each (λ b. value n (only n a) b ≡ false) (part side s f) (λ b m. let k = (member_select _ (points s) b).0 m in
          only_value n a b (inside b k.1) ∙ ne_eqb a b (λ q. false≢true (sym h ∙ rw (← q) at k.0)));
      point = a;
      inside = point;
      one = only_value n a a (inside a point) ∙ eq-eqb a a refl;
    })

    -- so some side differs at degree n
    some_side : either_differs o n s f n ≡ true
    some_side = go (eqb (get_or f a 0) 1) refl
      where
        go : (b : Bool) → eqb (get_or f a 0) 1 ≡ b → either_differs o n s f n ≡ true
        go true e = rw ((unequal_differs o n s f n 0).1 (outside_differs 0 (ne_eqb (get_or f a 0) 0 (λ q. omega (arith, eqb-true (get_or f a 0) 1 e)))), or-true)
        go false e = rw ((unequal_differs o n s f n 1).1 (outside_differs 1 e))

    -- a degree is reported, and is the first at which a side differs
    pub reports : (k : ℕ) × (reported o n s f ≡ Some k) × FirstDiffers o n s f k
    unfolding reported
    reports =
        let r = first_found (either_differs o n s f) (below (n + 1)) (below_rising (n + 1)) n ((degree_below n n).1 (omega arith)) some_side in
        (r.place, r.is, reported_first r.place r.is)

-- of a filter whose set has a point a degree is reported, and is that
pub filter_reports : {o : List ℕ} → Graded o → (n : ℕ) (s f : List ℕ) → Filter n s f → is_empty (points s) ≡ false
    → (k : ℕ) × (reported o n s f ≡ Some k) × FirstDiffers o n s f k
filter_reports g n s f p has = let (a, point) = some_member (points s) has in reports g (few_taps n s f p) s f (points_inside n s p.set_formed) a point
