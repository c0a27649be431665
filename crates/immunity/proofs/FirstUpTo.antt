-- The first degree up to n that passes a test.
--   degree_below       the members of below (n + 1) are the degrees up to n
--   FirstUpTo t n d    d is the first degree up to n that passes t
--   first_degree       a degree is given as first exactly when it is the first
--   first_none         none is given exactly when none passes
--   first_or           the first that passes one of two tests is the smaller of the firsts
--   smaller_counted    where one exists, the smaller is found by counting n for none
use mathlib.Core.Path.{◌≡◌, refl, sym, ap, ◌∙◌}
use mathlib.Core.Logic.{◌↔◌, inl, inr}
use mathlib.Core.Bool.{Bool, true, false, cond, ◌||◌, false≢true}
use mathlib.Core.List.{List, [], ◌∷◌, Memᴰ}
use Rattle.std.specs.Prelude.{Option, None, Some, unwrap_or}
use Rattle.std.specs.List.{find}
use Prim.Native.Nat.{ℕ, ◌+◌, ◌≤◌, ◌<◌, min}
use native.Mathlib.Omega.{arith}
use native.Mathlib.Decide.{dec_lt}
use Rattle.cube.specs.NumberLists.{below}
use Rattle.cube.proofs.Masks.{member_from}
use Rattle.gf2.specs.Points.{Rising}
use Rattle.gf2.proofs.Each.{each_member}
use Rattle.matrix.proofs.Rising.{below_rising}
use Rattle.immunity.specs.FirstDegree.{smaller}
use Rattle.immunity.proofs.First.{First, Says, first_says, first_found, first_is, first_passes}

-- the members of below (n + 1) are the degrees up to n
pub degree_below : (n d : ℕ) → Memᴰ d (below (n + 1)) ↔ (d ≤ n)
degree_below n d = (λ m. omega (arith, ((member_from 0 (n + 1) d).0 m).1), λ l. (member_from 0 (n + 1) d).1 (omega arith, omega arith))

-- d is the first degree up to n that passes
pub record FirstUpTo (t : ℕ → Bool) (n d : ℕ) : Type 0 where
  pub within : d ≤ n
  pub passes : t d ≡ true
  pub before : (e : ℕ) → e < d → t e ≡ false

module _ (t : ℕ → Bool) (n : ℕ) where
  -- what is given as first is the first
  is_first : (d : ℕ) → find t (below (n + 1)) ≡ Some d → FirstUpTo t n d
  is_first d e = go (first_is t (below (n + 1)) (below_rising (n + 1)) d e)
    where
      go : First t (below (n + 1)) (Some d) → FirstUpTo t n d
      go r =
          let same : d ≡ r.place = cc r.is in
          let up : r.place ≤ n = (degree_below n r.place).0 r.member in
          record {
            within = omega arith;
            passes = ap t same ∙ r.passes;
            before = λ i l. r.before i ((degree_below n i).1 (omega arith)) (omega arith);
          }

  -- the first is given
  is_given : (d : ℕ) → FirstUpTo t n d → find t (below (n + 1)) ≡ Some d
  is_given d h = go (first_found t (below (n + 1)) (below_rising (n + 1)) d ((degree_below n d).1 h.within) h.passes)
    where
      go : First t (below (n + 1)) (find t (below (n + 1))) → find t (below (n + 1)) ≡ Some d
      go r = elim (dec_lt d r.place) [
        | yes l ↦ absurd (false≢true (sym (r.before d ((degree_below n d).1 h.within) l) ∙ h.passes))
        | no l ↦ elim (dec_lt r.place d) [
          | yes m ↦ absurd (false≢true (sym (h.before r.place m) ∙ r.passes))
          | no m ↦ let e : r.place ≡ d = omega arith in r.is ∙ ap Some e
        ]
      ]

  -- a degree is given as first exactly when it is the first
  pub first_degree : (d : ℕ) → (find t (below (n + 1)) ≡ Some d) ↔ FirstUpTo t n d
  first_degree d = (is_first d, is_given d)

  -- none is given exactly when none passes
  pub first_none : (find t (below (n + 1)) ≡ None) ↔ ((d : ℕ) → d ≤ n → t d ≡ false)
  first_none = (to (first_says t (below (n + 1)) (below_rising (n + 1))), back (first_says t (below (n + 1)) (below_rising (n + 1))))
    where
      to : Says t (below (n + 1)) (find t (below (n + 1))) → find t (below (n + 1)) ≡ None → (d : ℕ) → d ≤ n → t d ≡ false
      to (inl h) e d l = each_member (λ i. t i ≡ false) h.1 ((degree_below n d).1 l)
      to (inr r) e d l = let q : None ≡ Some r.place = sym e ∙ r.is in let z : ◌≡◌ {A = ℕ} 0 1 = cc in absurd (omega arith)

      back : Says t (below (n + 1)) (find t (below (n + 1))) → ((d : ℕ) → d ≤ n → t d ≡ false) → find t (below (n + 1)) ≡ None
      back (inl h) f = h.0
      back (inr r) f = absurd (false≢true (sym (f r.place ((degree_below n r.place).0 r.member)) ∙ r.passes))

-- a number less than each that exists is the smaller
smaller_left : (x : ℕ) (y : Option ℕ) → ((z : ℕ) → y ≡ Some z → x < z) → Some x ≡ smaller (Some x) y
unfolding smaller
smaller_left x None h = refl
smaller_left x (Some z) h = let l : x < z = h z refl in let e : x ≡ min x z = omega arith in ap Some e

-- the same with the number on the right
smaller_right : (x : ℕ) (y : Option ℕ) → ((z : ℕ) → y ≡ Some z → x < z) → Some x ≡ smaller y (Some x)
unfolding smaller
smaller_right x None h = refl
smaller_right x (Some z) h = let l : x < z = h z refl in let e : x ≡ min z x = omega arith in ap Some e

-- the first that passes one of two tests is the smaller of the firsts
pub first_or : (t r : ℕ → Bool) (xs : List ℕ) → Rising xs → find (λ i. t i || r i) xs ≡ smaller (find t xs) (find r xs)
unfolding smaller
first_or t r [] h = refl
first_or t r (x ∷ xs) h = go (t x) (r x) (first_or t r xs h.1)
  where
    later : (v : ℕ → Bool) (z : ℕ) → find v xs ≡ Some z → x < z
    later v z e = each_member (λ y. x < y) h.0 (first_passes v xs z e).0

    go : (a b : Bool) → find (λ i. t i || r i) xs ≡ smaller (find t xs) (find r xs)
        → cond (a || b) (Some x) (find (λ i. t i || r i) xs) ≡ smaller (cond a (Some x) (find t xs)) (cond b (Some x) (find r xs))
    go true true e = let q : x ≡ min x x = omega arith in ap Some q
    go true false e = smaller_left x (find r xs) (later r)
    go false true e = smaller_right x (find t xs) (later t)
    go false false e = e

-- where one exists, the smaller is found by counting n, which neither exceeds, for none
pub smaller_counted : (n : ℕ) (x y : Option ℕ) → unwrap_or x n ≤ n → unwrap_or y n ≤ n → (k : ℕ) → smaller x y ≡ Some k
    → min (unwrap_or x n) (unwrap_or y n) ≡ k
unfolding smaller
smaller_counted n None None l m k e = let z : ◌≡◌ {A = ℕ} 0 1 = cc in absurd (omega arith)
smaller_counted n None (Some b) l m k e = let q : b ≡ k = cc in omega arith
smaller_counted n (Some a) None l m k e = let q : a ≡ k = cc in omega arith
smaller_counted n (Some a) (Some b) l m k e = let q : min a b ≡ k = cc in omega arith
