-- A point is split into two points from it on whose common bits it is.
--   splits_by   its high bits with all low ones, and all high ones with its low bits
use mathlib.Core.Path.{◌≡◌}
use Prim.Native.Nat.{ℕ, ◌+◌, ◌-◌, ◌*◌, ◌/◌, ◌%◌, ◌^◌, ◌≤◌, ◌<◌}
use native.Mathlib.Nat.{mod-lt, mul-le-mul_right}
use native.Mathlib.Omega.{arith}
use lib.Bits.{bit_and, and_mask}
use lib.Pow.{pow_pos, pow_mono, split, shr_lt, le_ones, high_ones}
use Rattle.cube.specs.Cube.{size}
use Rattle.cube.proofs.Bits.{and_split}
use Rattle.point_rows.specs.Workspace.{Splits}

-- a point of n bits is split at bit k
splits : (n k a : ℕ) → k ≤ n → a < size n → Splits n a (a - a % 2 ^ k + (2 ^ k - 1)) (2 ^ n - 2 ^ k + a % 2 ^ k)
splits n k a s h =
    let j : ℕ = n - k in
    let e : n ≡ j + k = omega arith in
    let inside : a < 2 ^ (j + k) = rw (← e) h in
    let parts : a / 2 ^ k * 2 ^ k + a % 2 ^ k ≡ a = split a k in
    let few : a / 2 ^ k ≤ 2 ^ j - 1 = le_ones j (shr_lt j k inside) in
    let high : a / 2 ^ k * 2 ^ k ≤ 2 ^ (j + k) - 2 ^ k = rw (high_ones j k) (mul-le-mul_right (2 ^ k) few) in
    let low : a % 2 ^ k < 2 ^ k = mod-lt a (pow_pos k) in
    let room : 2 ^ k ≤ 2 ^ (j + k) = rw (← e) (pow_mono s) in
    rw e record {
      common = and_split j k a inside;
      above_p = omega (arith, parts, low);
      above_q = omega (arith, parts, high);
      inside_p = omega (arith, parts, high, low, room);
      inside_q = omega (arith, low, room);
    }

-- its high bits with all low ones, and all high ones with its low bits: low is 2 to the power k, and whole is N
pub splits_by : (n k a low whole : ℕ) → low ≡ 2 ^ k → whole ≡ 2 ^ n → k ≤ n → a < size n
    → Splits n a (a - bit_and a (low - 1) + (low - 1)) (whole - low + bit_and a (low - 1))
splits_by n k a low whole e f s h = rw (e, f, and_mask a k) (splits n k a s h)
