-- Degree finds the degree.
--   degree_has       what Degree accepts with k has degree k
use mathlib.Core.Path.{◌≡◌, refl, sym, ap, ◌∙◌}
use mathlib.Core.Logic.{◌⊎◌, inl, inr}
use mathlib.Core.Bool.{false, false≢true}
use mathlib.Core.List.Memᴰ
use mathlib.Core.List.{List, [], ◌∷◌, Memᴰ}
use Prim.Native.Nat.{ℕ, ◌≤◌, max}
use native.Mathlib.Decide.{dec_lt}
use native.Mathlib.Omega.{arith}
use borrow.Author.Tests.{not-true}
use Rattle.cube.specs.NumberLists.{is_empty, largest}
use Rattle.cube.specs.Cube.{weight}
use Rattle.cube.specs.Mask.{member}
use Rattle.cube.proofs.Masks.{member_points, points_inside}
use Rattle.refusal.specs.Outcome.{accepted}
use Rattle.refusal.proofs.Verdicts.{passed_all, accepted_passes}
use Rattle.polynomial.specs.Polynomial.{HasDegree}
use Rattle.polynomial.specs.Degree.{exponents, degree_checks, degree_outcome}

-- no member has more than the largest
largest_most : (t : ℕ → ℕ) (x : ℕ) (xs : List ℕ) → Memᴰ x xs → t x ≤ largest t xs
unfolding largest
largest_most t x [] m = absurd (Memᴰ.not-nil m)
largest_most t x (y ∷ xs) m = go (largest_most t x xs) (Memᴰ.cases_cons m)
  where
    go : (Memᴰ x xs → t x ≤ largest t xs) → (x ≡ y) ⊎ Memᴰ x xs → t x ≤ max (t y) (largest t xs)
    go later (inl e) = omega (arith, ap t e)
    go later (inr h) = omega (arith, later h)

-- some member of a list that is not empty has the largest
largest_member : (t : ℕ → ℕ) (xs : List ℕ) → is_empty xs ≡ false → (x : ℕ) × Memᴰ x xs × (t x ≡ largest t xs)
unfolding largest is_empty
largest_member t [] e = absurd (false≢true (sym e))
largest_member t (y ∷ []) e = (y, Memᴰ.head refl, omega arith)
largest_member t (y ∷ z ∷ xs) e = go (largest_member t (z ∷ xs) refl)
  where
    go : (x : ℕ) × Memᴰ x (z ∷ xs) × (t x ≡ largest t (z ∷ xs)) → (x : ℕ) × Memᴰ x (y ∷ z ∷ xs) × (t x ≡ max (t y) (largest t (z ∷ xs)))
    go (x, m, q) = elim (dec_lt (t y) (t x)) [
      | yes l ↦ (x, Memᴰ.tail m, omega (arith, q))
      | no l ↦ (y, Memᴰ.head refl, omega (arith, q))
    ]

-- what Degree accepts with k has degree k
pub degree_has : (n : ℕ) (b : List ℕ) (k : ℕ) → degree_outcome n b ≡ accepted k → HasDegree n (member b) k
unfolding degree_outcome
degree_has n b k e =
    let (passed, same) = accepted_passes (degree_checks n b) (accepted (largest weight (exponents b))) k e in
    let (_, (_, (formed, (some, _)))) = passed_all (degree_checks n b) passed in
    let is : largest weight (exponents b) ≡ k = cc same in
    let top = largest_member weight (exponents b) (not-true _ some) in
    record {
      top = top.0;
      inside = points_inside n b formed top.0 top.1;
      chosen = (member_points b top.0).0 top.1;
      weighs = top.2 ∙ is;
      most = λ u l m. omega (arith, is, largest_most weight u (exponents b) ((member_points b u).1 m));
    }
