-- Sums over supersets: docs/SPECIFICATION.md, 'Check'. A number contains another that lies within it, as a point contains an exponent.
--   superset_sum k v u    the sum modulo 2 of v over the numbers below 2 to the power k that contain u
--   superset_sums v       the row of these sums of a row of 512 columns: column u of it is the sum of the columns that contain u
--   low_bit k p           bit k of the number p is 0
--   Stepped k v w         one step: where bit k of a number is 0, the value at the number with that bit is added
--   fold_of s m x         the number x, with its bits from bit s on added at the places of the mask m
--   partner_of xs h i     number i + h of a list, if i is in the lower half of a block of twice h numbers, else 0
use Rattle.std.specs.Prelude.{◌≡◌, Bool, ◌&&◌, cond, List, map, ℕ, ◌+◌, ◌/◌, ◌%◌, ◌^◌, eqb, get_or}
use Rattle.std.specs.Bool.{xor}
use Rattle.std.specs.Int.Bits.{bit_and, bit_xor}
use Rattle.cube.specs.NumberLists.{below}
use Rattle.cube.specs.Cube.{size, within}
use Rattle.gf2.specs.Vector.{Row, entry}
use Rattle.polynomial.specs.Polynomial.{sum_below}

-- the sum over the numbers that contain u
unfoldable pub superset_sum : ℕ → (ℕ → Bool) → ℕ → Bool
unfolding sum_below
superset_sum k v u = sum_below (size k) (λ p. v p && within u p)

-- column u is the sum of the columns that contain u
unfoldable pub superset_sums : Row → Row
unfolding superset_sum
superset_sums v = map (superset_sum 9 (entry v)) (below 512)

-- bit k is 0
unfoldable pub low_bit : ℕ → ℕ → Bool
low_bit k p = eqb (p / 2 ^ k % 2) 0

-- where bit k is 0, the value at the number with that bit is added
abbrev pub Stepped : ℕ → (ℕ → Bool) → (ℕ → Bool) → Type 0
Stepped k v w = (p : ℕ) → w p ≡ xor (v p) (low_bit k p && v (p + 2 ^ k))

-- the bits from bit s on are added at the places of the mask
unfoldable pub fold_of : ℕ → ℕ → ℕ → ℕ
fold_of s m x = bit_xor x (bit_and (x / 2 ^ s) m)

-- the number h places on, for one in the lower half of a block
unfoldable pub partner_of : List ℕ → ℕ → ℕ → ℕ
partner_of xs h i = cond (eqb (i / h % 2) 0) (get_or xs (i + h) 0) 0
