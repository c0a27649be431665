-- The sentences of docs/SPECIFICATION.md, 'Convert' and 'Degree', that the demands do not state, about the definitions that the
-- contracts equate with what the code answers and leaves. That Degree answers the degree is `degree_of_any` of WeightWords.
--   convert_rules b n   the rules of Convert, lent the bytes b, in the order of checking
--   degree_rules b n    those of Degree, lent the coefficients b
--   NormalFormWords     the sentences
use Rattle.std.specs.Prelude.{◌≡◌, ◌↔◌, true, List, [], ◌∷◌, ◌++◌, ℕ, ◌≤◌, ◌<◌, length, get_or, Result, Ok}
use Rattle.refusal.specs.Verdict.{Verdict}
use Rattle.refusal.specs.declared.Refusal.{Refusal}
use Rattle.cube.specs.Cube.{Taps, size}
use Rattle.cube.specs.Mask.{WellFormed, member, byte}
use Rattle.refusal.specs.Rule.{Rule, ◌unless◌, FirstBroken}
use Rattle.refusal.specs.Outcome.{refused, outcome_of}
use Rattle.polynomial.specs.Polynomial.{value}
use Rattle.polynomial.specs.Convert.{convert_outcome, ConvertContract}
use Rattle.polynomial.specs.Degree.{degree_outcome, DegreeContract}

-- 1: length not 512; 4; 8
abbrev pub convert_rules : List ℕ → ℕ → List Rule
convert_rules b n = 1 unless (length b ≡ 512) ∷ 4 unless Taps n ∷ 8 unless WellFormed n b ∷ []

-- 1, 4, 8 as Convert; 9: the polynomial is zero, no exponent has coefficient 1
abbrev pub degree_rules : List ℕ → ℕ → List Rule
degree_rules b n = convert_rules b n ++ (9 unless ((u : ℕ) × (member b u ≡ true)) ∷ [])

-- the sentences
pub record NormalFormWords : Type 0 where
  -- a refusal of Convert is by the number of the first rule that does not hold,
  pub convert_refuses : (n : ℕ) (b : List ℕ) (k : ℕ) → (convert_outcome n b ≡ refused k) ↔ FirstBroken (convert_rules b n) k
  -- and the code answers that number;
  pub convert_answers : (n : ℕ) (b b' : List ℕ) (r : Verdict) (k : ℕ) → ConvertContract n b b' r
      → (outcome_of r ≡ refused k) ↔ FirstBroken (convert_rules b n) k
  -- it accepts exactly what obeys the rules: 512 bytes, 1 to 9 taps, the 0/1/0 rule
  pub convert_accepts : (n : ℕ) (b b' : List ℕ) (r : Verdict) → ConvertContract n b b' r
      → (r ≡ Ok tt) ↔ ((length b ≡ 512) × Taps n × WellFormed n b)
  -- byte a, for a below N, then becomes the sum modulo 2 of the old bytes at all u within a,
  pub convert_sums : (n : ℕ) (b b' : List ℕ) → ConvertContract n b b' (Ok tt) → (a : ℕ) → a < size n → get_or b' a 0 ≡ byte (value n (member b) a)
  -- and the bytes from N on stay 0, up to the last of 512
  pub convert_stays : (n : ℕ) (b b' : List ℕ) → ConvertContract n b b' (Ok tt) → (length b' ≡ 512) × ((a : ℕ) → size n ≤ a → get_or b' a 0 ≡ 0)
  -- a refusal of Degree is by the number of the first rule that does not hold,
  pub degree_refuses : (n : ℕ) (b : List ℕ) (k : ℕ) → (degree_outcome n b ≡ refused k) ↔ FirstBroken (degree_rules b n) k
  -- and the code answers that number;
  pub degree_answers : (n : ℕ) (b : List ℕ) (r : Result ℕ Refusal) (k : ℕ) → DegreeContract n b r → (outcome_of r ≡ refused k) ↔ FirstBroken (degree_rules b n) k
  -- it accepts exactly what obeys the rules: as Convert, and some exponent has coefficient 1
  pub degree_accepts : (n : ℕ) (b : List ℕ) (r : Result ℕ Refusal) → DegreeContract n b r
      → ((d : ℕ) × (r ≡ Ok d)) ↔ ((length b ≡ 512) × Taps n × WellFormed n b × ((u : ℕ) × (member b u ≡ true)))
