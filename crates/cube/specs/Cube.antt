-- The cube of n taps: docs/SPECIFICATION.md, 'Words'.
--   taps n         n is a number of taps, 1 to 9
--   Taps n         the same as a proposition (proofs/Taps.antt, `taps_range`)
--   size n         the number of points, and of exponents, of n taps: N
--   within u a     the exponent u lies within the point a: the monomial u is then 1 at a
--   weight u       the number of one bits of u
use Rattle.std.specs.Prelude.{Bool, ◌&&◌, ℕ, ◌^◌, ◌≤◌, eqb, leb}
use Rattle.std.specs.Int.Bits.{bit_and}
use Rattle.std.specs.Int.Count.{ones}

-- from 1 to 9
abbrev pub taps : ℕ → Bool
taps n = leb 1 n && leb n 9

-- the same as a proposition
abbrev pub Taps : ℕ → Type 0
Taps n = (1 ≤ n) × (n ≤ 9)

-- 2 to the power n
abbrev pub size : ℕ → ℕ
size n = 2 ^ n

-- each one bit of the exponent u is a one bit of the point a (bit by bit: proofs/Bits.antt, `within_bits`)
unfoldable pub within : ℕ → ℕ → Bool
within u a = eqb (bit_and u a) u

-- the number of one bits
abbrev pub weight : ℕ → ℕ
weight u = ones u
