-- Polynomials in n taps: docs/SPECIFICATION.md, 'Words'.
--   Polynomial          a choice of exponents
--   sum_below m t       the sum modulo 2 of a test over the numbers below m
--   value n p a         its value at the point a: the sum modulo 2 of the chosen monomials there
--   UpTo n d p          no chosen exponent weighs more than d
--   HasDegree n p k     k is the largest weight of a chosen exponent
use Rattle.std.specs.Prelude.{◌≡◌, Bool, true, false, ◌&&◌, ℕ, zero, suc, ◌<◌, ◌≤◌}
use Rattle.std.specs.Bool.{xor}
use Rattle.cube.specs.Cube.{size, within, weight}

-- a choice of exponents
abbrev pub Polynomial : Type 0
Polynomial = ℕ → Bool

-- the sum modulo 2 of a test over the numbers below m
unfoldable pub sum_below : ℕ → (ℕ → Bool) → Bool
sum_below zero t = false
sum_below (suc m) t = xor (sum_below m t) (t m)

-- the sum of the chosen monomials at a point
unfoldable pub value : ℕ → Polynomial → ℕ → Bool
unfolding sum_below
value n p a = sum_below (size n) (λ u. p u && within u a)

-- no chosen exponent weighs more than d
abbrev pub UpTo : ℕ → ℕ → Polynomial → Type 0
UpTo n d p = (u : ℕ) → u < size n → p u ≡ true → weight u ≤ d

-- k is the largest weight of a chosen exponent
pub record HasDegree (n : ℕ) (p : Polynomial) (k : ℕ) : Type 0 where
  pub top : ℕ
  pub inside : top < size n
  pub chosen : p top ≡ true
  pub weighs : weight top ≡ k
  pub most : UpTo n k p
