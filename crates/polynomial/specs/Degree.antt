-- Degree: docs/SPECIFICATION.md, 'Degree'.
--   exponents b         the exponents whose coefficient in b is 1, rising
--   degree_checks n b   the checks of Degree, in order
--   degree_outcome n b  what Degree answers, lent the coefficients b
--   DegreeContract ..   the contract of Degree
use Rattle.std.specs.Prelude.{◌≡◌, not, List, [], ◌∷◌, ◌++◌, ℕ, Result}
use Rattle.cube.specs.NumberLists.{largest, is_empty}
use Rattle.cube.specs.Cube.{weight}
use Rattle.cube.specs.Mask.{marked}
use Rattle.refusal.specs.Outcome.{Outcome, accepted, Check, ◌otherwise◌, checked, outcome_of}
use Rattle.refusal.specs.declared.Refusal.{Refusal}
use Rattle.refusal.specs.declared.Refusal.TheVariants.{ZeroPolynomial}
use Rattle.polynomial.specs.Convert.{convert_checks}

-- the exponents whose coefficient is 1
abbrev pub exponents : List ℕ → List ℕ
exponents b = marked b

-- the checks of Convert, and then that some coefficient is 1
abbrev pub degree_checks : ℕ → List ℕ → List Check
degree_checks n b =
    convert_checks n b ++ (not (is_empty (exponents b)) otherwise ZeroPolynomial ∷ [])

-- refused by the first broken check, or the largest weight of an exponent with coefficient 1
unfoldable pub degree_outcome : ℕ → List ℕ → Outcome ℕ
unfolding largest
degree_outcome n b = checked (degree_checks n b) (accepted (largest weight (exponents b)))

-- what is answered
pub record DegreeContract (n : ℕ) (b : List ℕ) (r : Result ℕ Refusal) : Type 0 where
  pub answers : outcome_of r ≡ degree_outcome n b
