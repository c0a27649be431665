-- Each side's own degree.
--   side_first         it is the first degree up to n at which the side's pair differs
--   side_equal         there is none exactly when the pair differs at no degree up to n
--   side_annihilates   and exactly when the side has no annihilator
--   side_lowest        it is the lowest degree of an annihilator of the side
--   side_whole         there is none exactly when the part is all of the set
--   side_other         the other side has degree 0 then
--   sides_smaller      the reported degree is the smaller of those that exist
--   sides_one          some side's own is the reported one
--   side_most          the side is at most 1
--   side_is_1          the side is 1 exactly when side 1 has a degree and it is the reported one
use mathlib.Core.Path.{◌≡◌, refl, sym, ap, ◌∙◌}
use mathlib.Core.Logic.{◌↔◌, ◌≢◌, inl, inr}
use mathlib.Core.Bool.{Bool, true, false}
use mathlib.Core.List.{List, Memᴰ}
use Rattle.std.specs.Prelude.{Option, None, Some}
use Rattle.std.proofs.lemmas.Option.{none-some, same_Some}
use Prim.Native.Nat.{ℕ, ◌+◌, ◌≤◌, ◌<◌}
use native.Mathlib.Omega.{arith}
use native.Mathlib.Decide.{dec_lt}
use lib.Dec.{eqb}
use lib.Count.{ones}
use lib.ListN.{get_or}
use lib.Pow.{pow_pos}
use borrow.Author.Tests.{eqb-true}
use Rattle.cube.specs.NumberLists.{below, Inside}
use Rattle.cube.specs.Cube.{size, within}
use Rattle.cube.specs.Mask.{points, byte}
use Rattle.cube.proofs.Listed.{select_all, member_select}
use Rattle.order.specs.Order.{Graded}
use Rattle.gf2.proofs.Each.{member_each}
use Rattle.polynomial.specs.Polynomial.{Polynomial, value, UpTo}
use Rattle.polynomial.proofs.HasDegree.{has_degree}
use Rattle.polynomial.proofs.Value.{monomial_value, up_to_all}
use Rattle.matrix.specs.Matrix.{rank_of}
use Rattle.matrix.proofs.Rising.{below_rising, points_rising}
use Rattle.filter.specs.Part.{part}
use Rattle.immunity.specs.Annihilator.{Annihilator, LowestDegree}
use Rattle.immunity.specs.Witness.{IsWitness, witness_at}
use Rattle.immunity.specs.FirstDegree.{smaller}
use Rattle.immunity.specs.Judgement.{EqualRanks, differs, reported, side_degree, side_at}
use Rattle.immunity.proofs.FirstUpTo.{first_degree, first_none, first_or}
use Rattle.immunity.proofs.PartPoints.{part_among}
use Rattle.immunity.proofs.Reported.{FirstDiffers, unequal_differs, equal_differs, equal_just, outside_differs}
use Rattle.immunity.proofs.Witnesses.{is_annihilator, witness_is}

module _ (o : List ℕ) (n : ℕ) (s f : List ℕ) where
  module _ (side : ℕ) where
    -- the test whether the side's pair differs
    abbrev test : ℕ → Bool
    test d = differs o n s f d side

    -- the first degree up to n at which the pair differs
    pub side_first : (d : ℕ) → (side_degree o n s f side ≡ Some d)
        ↔ ((d ≤ n) × (¬ EqualRanks o n s f side d) × ((e : ℕ) → e < d → EqualRanks o n s f side e))
    unfolding side_degree
    side_first d = (
      λ e. let r = (first_degree test n d).0 e in (r.within, (unequal_differs o n s f d side).0 r.passes, λ i l. (equal_differs o n s f i side).0 (r.before i l)),
      λ (l, h, b). (first_degree test n d).1 (record { within = l; passes = (unequal_differs o n s f d side).1 h; before = λ i m. (equal_differs o n s f i side).1 (b i m) }),
    )

    -- none exactly when it differs at no degree up to n
    pub side_equal : (side_degree o n s f side ≡ None) ↔ ((d : ℕ) → d ≤ n → EqualRanks o n s f side d)
    unfolding side_degree
    side_equal = (
      λ e d l. (equal_differs o n s f d side).0 ((first_none test n).0 e d l),
      λ h. (first_none test n).1 (λ d l. (equal_differs o n s f d side).1 (h d l)),
    )

  -- the reported degree is the smaller of those that exist
  pub sides_smaller : reported o n s f ≡ smaller (side_degree o n s f 1) (side_degree o n s f 0)
  unfolding reported side_degree
  sides_smaller = first_or (test 1) (test 0) (below (n + 1)) (below_rising (n + 1))

  -- some side's own is the reported one
  pub sides_one : (k : ℕ) → FirstDiffers o n s f k → (side : ℕ) × (side ≤ 1) × (side_degree o n s f side ≡ Some k)
  sides_one k r = elim r.at [ inl h ↦ (1, omega arith, own 1 (omega arith) h) | inr h ↦ (0, omega arith, own 0 (omega arith) h) ]
    where
      own : (side : ℕ) → side ≤ 1 → ¬ EqualRanks o n s f side k → side_degree o n s f side ≡ Some k
      own side l h = (side_first side k).1 (r.within, h, λ d i. r.before side d l i)

  -- the side is at most 1
  pub side_most : (x : Option ℕ) (i : ℕ) → side_at o n s f x ≡ Some i → i ≤ 1
  unfolding side_at
  side_most None i e = absurd (none-some i e)
  side_most (Some k) i e = bounded (differs o n s f k 1) (same_Some _ _ e)
    where
      bounded : (b : Bool) → byte b ≡ i → i ≤ 1
      bounded true q = omega arith
      bounded false q = omega arith

  -- the side is 1 exactly when side 1 has a degree and it is the reported one
  pub side_is_1 : ((k : ℕ) → reported o n s f ≡ Some k → FirstDiffers o n s f k)
      → (side_at o n s f (reported o n s f) ≡ Some 1) ↔ ((d : ℕ) × (side_degree o n s f 1 ≡ Some d) × (reported o n s f ≡ Some d))
  unfolding side_at
  side_is_1 firsts = (
    λ e. go (reported o n s f) refl e,
    λ (d, e, q). ap (side_at o n s f) q ∙ ap (λ b. Some (byte b)) ((unequal_differs o n s f d 1).1 ((side_first 1 d).0 e).1),
  )
    where
      byte_one : (b : Bool) → byte b ≡ 1 → b ≡ true
      byte_one true e = refl
      byte_one false e = absurd (omega arith)

      go : (x : Option ℕ) → reported o n s f ≡ x → side_at o n s f x ≡ Some 1 → (d : ℕ) × (side_degree o n s f 1 ≡ Some d) × (reported o n s f ≡ Some d)
      go None is e = absurd (none-some 1 e)
      go (Some k) is e =
          let r = firsts k is in
          (k, (side_first 1 k).1 (r.within, (unequal_differs o n s f k 1).0 (byte_one (test 1 k) (same_Some _ _ e)), λ d l. r.before 1 d (omega arith) l), is)

module _ {o : List ℕ} (g : Graded o) {n : ℕ} (small : n ≤ 9) (s f : List ℕ) (side : ℕ) where
  -- none exactly when the side has no annihilator
  pub side_annihilates : (side_degree o n s f side ≡ None) ↔ ((p : Polynomial) → ¬ Annihilator n p (part side s f) (points s))
  side_annihilates = (
    λ e p. (equal_just g small s f side n).0 ((side_equal o n s f side).0 e n (omega arith)) p (up_to_all n p),
    λ h. (side_equal o n s f side).1 (λ d l. (equal_just g small s f side d).1 (λ p u. h p)),
  )

  -- a side's degree is the lowest degree of an annihilator
  is_lowest : (d : ℕ) → side_degree o n s f side ≡ Some d → LowestDegree n (part side s f) (points s) d
  is_lowest d e = record {
    polynomial = w;
    annihilates = annihilates;
    has_degree = has_degree n w d is.on_new.up_to is.point is.one (λ j u. least j w annihilates u);
    least = λ j p a h. least j p a h.most;
  }
    where
      before : (j : ℕ) → j < d → EqualRanks o n s f side j
      before = ((side_first o n s f side d).0 e).2

      w : Polynomial
      w = witness_at o n d (points s) (part side s f)

      is : IsWitness o n d (points s) (part side s f) w
      is = witness_is g small d (points s) (part side s f) (points_rising s) (part_among side s f) ((side_first o n s f side d).0 e).1

      annihilates : Annihilator n w (part side s f) (points s)
      annihilates = is_annihilator g small d (points s) (part side s f) is

      least : (j : ℕ) (p : Polynomial) → Annihilator n p (part side s f) (points s) → UpTo n j p → d ≤ j
      least j p a u = elim (dec_lt j d) [ yes i ↦ absurd ((equal_just g small s f side j).0 (before j i) p u a) | no i ↦ omega arith ]

  -- a degree is the side's own exactly when it is the lowest of an annihilator
  pub side_lowest : (d : ℕ) → (side_degree o n s f side ≡ Some d) ↔ LowestDegree n (part side s f) (points s) d
  side_lowest d = (is_lowest d, λ r. go r (side_degree o n s f side) refl)
    where
      go : LowestDegree n (part side s f) (points s) d → (x : Option ℕ) → side_degree o n s f side ≡ x → side_degree o n s f side ≡ Some d
      go r None e = absurd (side_annihilates.0 e r.polynomial r.annihilates)
      go r (Some j) e =
          let q = is_lowest j e in
          let same : j ≡ d = omega (arith, r.least j q.polynomial q.annihilates q.has_degree, q.least d r.polynomial r.annihilates r.has_degree) in
          e ∙ ap Some same

  -- none exactly when the part is all of the set
  pub side_whole : Inside (size n) (points s) → (side_degree o n s f side ≡ None) ↔ (part side s f ≡ points s)
  side_whole inside = (
    λ e. select_all (λ a. eqb (get_or f a 0) side) (points s) (λ a m. go e a m (eqb (get_or f a 0) side) refl),
    λ e. (side_equal o n s f side).1 (λ d l. ap (rank_of o n d) (sym e)),
  )
    where
      go : side_degree o n s f side ≡ None → (a : ℕ) → Memᴰ a (points s) → (b : Bool) → eqb (get_or f a 0) side ≡ b → eqb (get_or f a 0) side ≡ true
      go e a m true q = q
      go e a m false q = absurd (outside_differs g small s f inside a m side q ((side_equal o n s f side).0 e n (omega arith)))

-- the polynomial 1 is one at every point
one_value : (n a : ℕ) → value n (eqb 0) a ≡ true
unfolding within
one_value n a = monomial_value n 0 a (pow_pos n)

-- where the part is all of the set the other side has degree 0: its part is empty, and the polynomial 1 is an annihilator
pub side_other : {o : List ℕ} → Graded o → {n : ℕ} → n ≤ 9 → (s f : List ℕ) (side other : ℕ) → other ≢ side → part side s f ≡ points s
    → (a : ℕ) → Memᴰ a (points s) → side_degree o n s f other ≡ Some 0
unfolding ones
side_other g {n} small s f side other apart whole a point = (side_lowest g small s f other 0).1 (record {
  polynomial = eqb 0;
  annihilates = record { zero = member_each _ (part other s f) (λ b m. absurd (apart (same b m))); point = a; inside = point; one = one_value n a };
  has_degree = record { top = 0; inside = pow_pos n; chosen = refl; weighs = refl; most = λ u l e. rw (← eqb-true 0 u e) (omega arith) };
  least = λ e p h d. omega arith;
})
  where
    same : (b : ℕ) → Memᴰ b (part other s f) → other ≡ side
    same b m =
        let (is, inside) = (member_select _ (points s) b).0 m in
        let whose : Memᴰ b (part side s f) = rw whole inside in
        sym (eqb-true (get_or f b 0) other is) ∙ eqb-true (get_or f b 0) side ((member_select _ (points s) b).0 whose).0
