-- What is promised of the weight of an exponent, sentence by sentence: docs/SPECIFICATION.md, 'Words' and 'Degree'. The contract of
-- the function `weight` (cube/src/lib.rt) says that it answers this weight, of every number of 16 bits.
--   WeightWords   what the weight is, how large it can be, and that Degree answers it
use Rattle.std.specs.Prelude.{◌≡◌, List, ℕ, ◌^◌, ◌/◌, ◌%◌, ◌≤◌, ◌<◌, eqb, length, Result, Ok}
use Rattle.refusal.specs.declared.Refusal.{Refusal}
use Rattle.cube.specs.NumberLists.{below, select}
use Rattle.cube.specs.Cube.{Taps, size, weight}
use Rattle.cube.specs.Mask.{member, mask}
use Rattle.polynomial.specs.Polynomial.{HasDegree}
use Rattle.polynomial.specs.Degree.{DegreeContract}

-- what is promised
pub record WeightWords : Type 0 where
  -- the weight of a number of k bits is how many of them are ones
  pub counts_ones : (k u : ℕ) → u < 2 ^ k → weight u ≡ length (select (λ i. eqb (u / 2 ^ i % 2) 1) (below k))
  -- the weight of an exponent of n taps is at most n: of one from 0 to 511 it is at most 9
  pub at_most : (n u : ℕ) → u < size n → weight u ≤ n
  -- Degree answers the weight of an exponent for the polynomial of that exponent alone
  pub degree_of_one : (n u : ℕ) (r : Result ℕ Refusal) → Taps n → u < size n → DegreeContract n (mask (eqb u)) r → r ≡ Ok (weight u)
  -- what it answers for any polynomial is the polynomial's degree, which is at most n
  pub degree_of_any : (n : ℕ) (b : List ℕ) (k : ℕ) → DegreeContract n b (Ok k) → HasDegree n (member b) k × (k ≤ n)
