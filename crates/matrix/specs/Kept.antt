-- The points that elimination keeps: docs/SPECIFICATION.md, 'Elimination'.
--   kept_points o n d ps   the points that elimination at degree d keeps of ps
--   kept_mask o n d ps     the 512 bytes that mark them
--   KeptAt t c ps k qs     the first k of qs are the points that elimination of c columns of the rows in the places of ps keeps
use Rattle.std.specs.Prelude.{◌≡◌, List, ℕ, take}
use Rattle.cube.specs.NumberLists.{lists}
use Rattle.cube.specs.Mask.{mask}
use Rattle.gf2.specs.Vector.{Row}
use Rattle.gf2.specs.Elimination.{eliminate}
use Rattle.point_rows.specs.Workspace.{stored}
use Rattle.matrix.specs.Matrix.{eliminated}

-- the points that elimination keeps
abbrev pub kept_points : List ℕ → ℕ → ℕ → List ℕ → List ℕ
kept_points o n d ps = (eliminated o n d ps).points

-- the bytes that mark them
unfoldable pub kept_mask : List ℕ → ℕ → ℕ → List ℕ → List ℕ
unfolding lists
kept_mask o n d ps = mask (lists (kept_points o n d ps))

-- the first k are the points kept of c columns
abbrev pub KeptAt : List Row → ℕ → List ℕ → ℕ → List ℕ → Type 0
KeptAt t c ps k qs = take k qs ≡ (eliminate (stored t c) ps).points
