-- What the search for ranks and witnesses needs of the workspace and of each mask.
--   Ready o n ws   a workspace with the row of each point of n taps in its place, the columns in the order o
--   Marks n s      a mask of points of n taps
use Rattle.std.specs.Prelude.{List, ℕ, ◌≤◌}
use Rattle.cube.specs.NumberLists.{Inside}
use Rattle.cube.specs.Cube.{size}
use Rattle.cube.specs.Mask.{points}
use Rattle.packed.specs.Packed.{unpacked}
use Rattle.point_rows.specs.Workspace.{exponents, RowsFrom}

-- the row of each point of n taps is in its place, with its columns in the order
pub record Ready (o : List ℕ) (n : ℕ) (ws : List (List ℕ)) : Type 0 where
  pub small : n ≤ 9
  pub rows : RowsFrom (exponents o n) n (unpacked ws) 0

-- a mask marks points of n taps
abbrev pub Marks : ℕ → List ℕ → Type 0
Marks n s = Inside (size n) (points s)
