-- Old points as the code lists them, and the bytes at them.
--   OldPoints n ts k ps     the list ps holds the old point, by the wiring ts of n taps, of each number below 2^k
--   Doubled k place ps qs   the list qs holds below 2^k what ps holds, and from there on the same with the bit `place` set
--   gathered n ps b         the mask whose byte at a point a of n taps is that of b at entry a of ps
use Rattle.std.specs.Prelude.{◌≡◌, ◌&&◌, List, ℕ, ◌+◌, ◌^◌, ◌<◌, ltb, get_or}
use Rattle.std.specs.Int.Bits.{bit_or}
use Rattle.cube.specs.Cube.{size}
use Rattle.cube.specs.Mask.{member, mask}
use Rattle.wiring.specs.Wiring.{old_point}

-- the old points of the numbers below 2^k
pub record OldPoints (n : ℕ) (ts : List ℕ) (k : ℕ) (ps : List ℕ) : Type 0 where
  pub at : (a : ℕ) → a < size k → get_or ps a 0 ≡ old_point n ts a

-- the first 2^k numbers stay, and the next 2^k are made of them
pub record Doubled (k place : ℕ) (ps qs : List ℕ) : Type 0 where
  pub low : (r : ℕ) → r < 2 ^ k → get_or qs r 0 ≡ get_or ps r 0
  pub high : (r : ℕ) → r < 2 ^ k → get_or qs (2 ^ k + r) 0 ≡ bit_or (2 ^ place) (get_or ps r 0)

-- the byte at a point is that at an entry of a list
unfoldable pub gathered : ℕ → List ℕ → List ℕ → List ℕ
gathered n ps b = mask (λ a. ltb a (size n) && member b (get_or ps a 0))
