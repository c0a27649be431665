-- The steps are those of `nibble_counts` and of the two sums behind it; `weight_counted` says what they give.
use Prim.Native.Nat.{ℕ, ◌+◌, ◌-◌, ◌*◌, ◌/◌, ◌^◌, ◌≤◌}
use native.Mathlib.Nat.{le_trans}
use native.Mathlib.Omega.{arith}
use lib.Bits.{bit_and, and_le_l, and_le_r}
use lib.Pow.{shr_le}
use Rattle.cube.proofs.NibbleCounts.{pair_sums_le, nibble_counts, weight_counted}
use Rattle.cube.proofs.weight.Goals as goal

pub returns : goal.returns
unfolding nibble_counts
returns c = weight_counted c.args.u.0 (omega arith)

pub overflow_sub-pairs : goal.overflow_sub-pairs
overflow_sub-pairs c = le_trans (and_le_l _ _) (shr_le _ 1)

-- no sum leaves 16 bits
module _ (u : ℕ) where
  -- the counts of the four nibbles,
  abbrev nibbles : ℕ
  nibbles = nibble_counts 0x5555 0x3333 u

  -- and those of the two bytes added
  abbrev sums : ℕ
  sums = bit_and nibbles 0xff + nibbles / 2 ^ 8

  -- each of the three sums is small
  nibbles-le : nibbles ≤ 2 * 0x3333
  unfolding nibble_counts
  nibbles-le = pair_sums_le 0x3333 (u - bit_and (u / 2 ^ 1) 0x5555)

  sums-le : sums ≤ 2 * 0xff
  sums-le = omega (arith, and_le_r nibbles 0xff, nibbles-le)

  result-le : bit_and sums 0xf + sums / 2 ^ 4 ≤ 2 * 0xff
  result-le = omega (arith, and_le_r sums 0xf, sums-le)

pub overflow_add-nibbles : goal.overflow_add-nibbles
unfolding nibble_counts
overflow_add-nibbles c = record { fits = omega (arith, nibbles-le c.args.u.0) }

pub overflow_add-sums : goal.overflow_add-sums
unfolding nibble_counts
overflow_add-sums c = record { fits = omega (arith, sums-le c.args.u.0) }

pub overflow_add-result : goal.overflow_add-result
unfolding nibble_counts
overflow_add-result c = record { fits = omega (arith, result-le c.args.u.0) }
