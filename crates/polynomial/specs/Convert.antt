-- Convert: docs/SPECIFICATION.md, 'Convert'.
--   Bits s               each byte is 0 or 1
--   values n p           a byte for each point of n taps: the value of the polynomial p there
--   lower_added h s      the first h bytes of s, and then their sums with the next h bytes
--   converted n b        the bytes below N become the values of the polynomial that the bytes choose; the others stay
--   convert_checks n b   the checks of Convert, in order
--   convert_outcome n b  what Convert answers, lent the bytes b
--   convert_leaves n b   the bytes as Convert leaves them
--   ConvertContract ..   the contract of Convert
use Rattle.std.specs.Prelude.{◌≡◌, List, ◌++◌, map, ℕ, ◌+◌, ◌≤◌, length, get_or, take, drop}
use Rattle.std.specs.Int.Bits.{bit_xor}
use Rattle.cube.specs.NumberLists.{below}
use Rattle.cube.specs.Cube.{size}
use Rattle.cube.specs.Mask.{member, byte}
use Rattle.refusal.specs.Outcome.{Outcome, accepted, Check, checked, left, outcome_of}
use Rattle.refusal.specs.Verdict.{Verdict}
use Rattle.filter.specs.Checks.{length_is, taps_of, mask_of}
use Rattle.polynomial.specs.Polynomial.{Polynomial, value}

-- each byte is 0 or 1
abbrev pub Bits : List ℕ → Type 0
Bits s = (k : ℕ) → get_or s k 0 ≤ 1

-- a byte for each point: the value of a polynomial there
unfoldable pub values : ℕ → Polynomial → List ℕ
unfolding value
values n p = map (λ a. byte (value n p a)) (below (size n))

-- the lower of two halves of h bytes is added into the upper
abbrev pub lower_added : ℕ → List ℕ → List ℕ
lower_added h s = take h s ++ map (λ k. bit_xor (get_or s k 0) (get_or s (h + k) 0)) (below h)

-- byte a, for a below N, becomes the sum modulo 2 of the bytes at all u within a
unfoldable pub converted : ℕ → List ℕ → List ℕ
unfolding values
converted n b = values n (member b) ++ drop (size n) b

-- the length, the number of taps, the 0/1/0 rule
abbrev pub convert_checks : ℕ → List ℕ → List Check
convert_checks n b = length_is (length b) 512 ++ taps_of n ++ mask_of n b

-- refused by the first broken check, or accepted
unfoldable pub convert_outcome : ℕ → List ℕ → Outcome Unit
convert_outcome n b = checked (convert_checks n b) (accepted tt)

-- the converted bytes; a refusal leaves the bytes as they were
unfoldable pub convert_leaves : ℕ → List ℕ → List ℕ
unfolding convert_outcome converted
convert_leaves n b = left (convert_outcome n b) b (converted n b)

-- the answer, and the bytes at exit
pub record ConvertContract (n : ℕ) (b b' : List ℕ) (r : Verdict) : Type 0 where
  pub answers : outcome_of r ≡ convert_outcome n b
  pub leaves : b' ≡ convert_leaves n b
