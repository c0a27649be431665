-- The points of a part.
--   part_rising   they rise
--   part_among    they are points of the set
use mathlib.Core.List.{List, Memᴰ}
use Prim.Native.Nat.{ℕ}
use Rattle.cube.specs.Mask.{points}
use Rattle.gf2.specs.Points.{Rising}
use Rattle.matrix.proofs.Rising.{rising_select, points_rising}
use Rattle.filter.specs.Part.{part}
use Rattle.cube.proofs.Listed.{member_select}
use Rattle.gf2.specs.Vector.{Each}
use Rattle.gf2.proofs.Each.{member_each}

-- they rise
pub part_rising : (side : ℕ) (s f : List ℕ) → Rising (part side s f)
part_rising side s f = rising_select _ (points s) (points_rising s)

-- the points of a part are points of the set
pub part_among : (side : ℕ) (s f : List ℕ) → Each (λ a. Memᴰ a (points s)) (part side s f)
part_among side s f = member_each (λ a. Memᴰ a (points s)) (part side s f) (λ a m. ((member_select _ (points s) a).0 m).1)
