-- The ones of a number of 16 bits, counted in its nibbles.
--   pair_sums q x         in each nibble of x the sum of its two pairs, where the mask q has the low pair of each
--   pair_sums_le         it is at most twice the mask
--   nibble_counts p q u   in each nibble the count of the ones of that of u, where the mask p has the low bit of each pair
--   counts_bytes         the ones of two bytes are counted apart
--   weight_counted       the counts of the four nibbles add up to the weight
use mathlib.Core.Path.{◌≡◌, refl, sym, ap, ap₂, ◌∙◌}
use mathlib.Core.Bool.{Bool, true, ◌&&◌}
use Prim.Native.Nat.{ℕ, ◌+◌, ◌-◌, ◌*◌, ◌/◌, ◌%◌, ◌^◌, ◌≤◌, ◌<◌}
use native.Mathlib.Nat.{add_comm}
use native.Mathlib.Omega.{arith}
use lib.Dec.{eqb, leb}
use lib.Bits.{bit_and, and_block, and_mask, and_zero_r, and_le_l, and_le_r}
use lib.Pow.{split, high, low}
use lib.Count.{ones, ones_cat}
use borrow.Author.Tests.{eqb-true, leb-true}
use Rattle.cube.specs.Cube.{weight}
use Rattle.cube.specs.NumberLists.{all_below}
use Rattle.cube.proofs.AllBelow.{all_says}
use Rattle.cube.proofs.Listed.{and_both}

-- the sum of the two pairs of each nibble
unfoldable pub pair_sums : ℕ → ℕ → ℕ
pair_sums q x = bit_and x q + bit_and (x / 2 ^ 2) q

-- it is at most twice the mask
pub pair_sums_le : (q x : ℕ) → pair_sums q x ≤ 2 * q
unfolding pair_sums
pair_sums_le q x = omega (arith, and_le_r x q, and_le_r (x / 2 ^ 2) q)

-- the count of the ones of each nibble: of each pair first
unfoldable pub nibble_counts : ℕ → ℕ → ℕ → ℕ
unfolding pair_sums
nibble_counts p q u = pair_sums q (u - bit_and (u / 2 ^ 1) p)

-- a mask of k bits in both bytes, on a number whose low byte has l in its k low bits and r above them
and_bytes : (k m x h r l : ℕ) → x ≡ h * 2 ^ 8 + (r * 2 ^ k + l) → r * 2 ^ k + l < 2 ^ 8 → l < 2 ^ k → m < 2 ^ k → m < 2 ^ 8
    → bit_and x (m * 2 ^ 8 + m) ≡ bit_and h m * 2 ^ 8 + bit_and l m
and_bytes k m x h r l e s b i j =
    let none : bit_and r 0 * 2 ^ k ≡ 0 = rw (and_zero_r r) (omega arith) in
    let whole : 0 * 2 ^ k + m ≡ m = omega arith in
    let low : bit_and (r * 2 ^ k + l) m ≡ bit_and l m = ap (bit_and (r * 2 ^ k + l)) (sym whole) ∙ and_block k r 0 l m b i ∙ omega (arith, none) in
    ap (λ (y : ℕ). bit_and y (m * 2 ^ 8 + m)) e ∙ and_block 8 h m (r * 2 ^ k + l) m s j ∙ ap (λ (y : ℕ). bit_and h m * 2 ^ 8 + y) low

-- the pairs of both bytes are summed apart
sums_bytes : (h l : ℕ) → h < 2 ^ 8 → l < 2 ^ 8 → pair_sums 0x3333 (h * 2 ^ 8 + l) ≡ pair_sums 0x33 h * 2 ^ 8 + pair_sums 0x33 l
unfolding pair_sums
sums_bytes h l i j =
    let low = and_bytes 8 0x33 (h * 2 ^ 8 + l) h 0 l (omega arith) (omega arith) j (omega arith) (omega arith) in
    let high = and_bytes 6 0x33 ((h * 2 ^ 8 + l) / 2 ^ 2) (h / 2 ^ 2) (h % 2 ^ 2) (l / 2 ^ 2) (omega arith) (omega arith) (omega arith) (omega arith) (omega arith) in
    omega (arith, low, high)

-- the ones of both bytes are counted apart
counts_bytes : (h l : ℕ) → h < 2 ^ 8 → l < 2 ^ 8 → nibble_counts 0x5555 0x3333 (h * 2 ^ 8 + l) ≡ nibble_counts 0x55 0x33 h * 2 ^ 8 + nibble_counts 0x55 0x33 l
unfolding nibble_counts
counts_bytes h l i j =
    let a = bit_and (h / 2 ^ 1) 0x55 in
    let b = bit_and (l / 2 ^ 1) 0x55 in
    let both : bit_and ((h * 2 ^ 8 + l) / 2 ^ 1) 0x5555 ≡ a * 2 ^ 8 + b =
    and_bytes 7 0x55 ((h * 2 ^ 8 + l) / 2 ^ 1) (h / 2 ^ 1) (h % 2 ^ 1) (l / 2 ^ 1) (omega arith) (omega arith) (omega arith) (omega arith) (omega arith) in
    let apart : h * 2 ^ 8 + l - bit_and ((h * 2 ^ 8 + l) / 2 ^ 1) 0x5555 ≡ (h - a) * 2 ^ 8 + (l - b) = omega (arith, both, and_le_l (h / 2 ^ 1) 0x55, and_le_l (l / 2 ^ 1) 0x55) in
    ap (pair_sums 0x3333) apart ∙ sums_bytes (h - a) (l - b) (omega arith) (omega arith)

-- the counts of the two nibbles of a byte are at most 4 each, and together its weight
counted : ℕ → Bool
unfolding nibble_counts ones
counted x = let y = nibble_counts 0x55 0x33 x in leb (y % 16) 4 && (leb (y / 16) 4 && eqb (y % 16 + y / 16) (weight x))

-- of every byte
counted_all : all_below 256 counted ≡ true
unfolding counted all_below
counted_all = refl

-- the same as facts
counted_says : (x : ℕ) → x < 256 → let y = nibble_counts 0x55 0x33 x in (y % 16 ≤ 4) × (y / 16 ≤ 4) × (y % 16 + y / 16 ≡ weight x)
unfolding counted
counted_says x i =
    let y = nibble_counts 0x55 0x33 x in
    let (low, rest) = and_both _ _ ((all_says 256 counted).0 counted_all x i) in
    let (high, sum) = and_both _ _ rest in
    (leb-true (y % 16) 4 low, leb-true (y / 16) 4 high, eqb-true (y % 16 + y / 16) (weight x) sum)

-- what the nibbles of two bytes hold is the same before and after the bytes are added, where no nibble overflows
added : (a b : ℕ) → (a % 16 ≤ 4) → (a / 16 ≤ 4) → (b % 16 ≤ 4) → (b / 16 ≤ 4) → (a + b) % 16 + (a + b) / 16 ≡ (a % 16 + a / 16) + (b % 16 + b / 16)
added a b i j k l = omega arith

-- the counts of the four nibbles add up to the weight
pub weight_counted : (u : ℕ) → u < 2 ^ 16 → let y = nibble_counts 0x5555 0x3333 u in let z = bit_and y 0xff + y / 2 ^ 8 in bit_and z 0xf + z / 2 ^ 4 ≡ weight u
weight_counted u i =
    let h = u / 2 ^ 8 in
    let l = u % 2 ^ 8 in
    let a = nibble_counts 0x55 0x33 l in
    let b = nibble_counts 0x55 0x33 h in
    let y = nibble_counts 0x5555 0x3333 u in
    let z = bit_and y 0xff + y / 2 ^ 8 in
    let (low-a, high-a, sum-a) = counted_says l (omega arith) in
    let (low-b, high-b, sum-b) = counted_says h (omega arith) in
    let whole : h * 2 ^ 8 + l ≡ u = split u 8 in
    let bytes : y ≡ b * 2 ^ 8 + a = ap (nibble_counts 0x5555 0x3333) (sym whole) ∙ counts_bytes h l (omega arith) (omega arith) in
    let both : z ≡ a + b = ap₂ ◌+◌ (and_mask y 8 ∙ ap (λ x. x % 2 ^ 8) bytes ∙ low b 8 (omega arith)) (ap (λ x. x / 2 ^ 8) bytes ∙ high b 8 (omega arith)) in
    ap (λ x. x + z / 2 ^ 4) (and_mask z 4) ∙ ap (λ x. x % 16 + x / 16) both ∙ added a b low-a high-a low-b high-b
    ∙ ap₂ ◌+◌ sum-a sum-b ∙ sym (ap weight (sym whole) ∙ ones_cat 8 h l (omega arith) ∙ add_comm (weight h) (weight l))
