-- A number for each degree; and the ranks of rows in the workspace, cut to as many columns as a degree has.
--   number_if b x             the number x, or 0
--   up_to n f d               the number that f gives at a degree d up to n, and 0 past n
--   column_count o n d        the number of columns at degree d
--   column_counts o n         the number of columns at each degree up to n, and 0 past it
--   rank_cut t ps cs d        the rank at degree d of the rows in the places of the points ps, where cs has the number of columns of each degree
--   additions_cut t ps cs d   the additions of the elimination that finds it
use Rattle.std.specs.Prelude.{Bool, true, false, List, map, ℕ, leb, length, get_or}
use Rattle.cube.specs.NumberLists.{below}
use Rattle.order.specs.Order.{columns}
use Rattle.gf2.specs.Vector.{Row}
use Rattle.gf2.specs.Elimination.{eliminate}
use Rattle.point_rows.specs.Workspace.{stored}

-- the number, or 0
unfoldable pub number_if : Bool → ℕ → ℕ
number_if true x = x
number_if false x = 0

-- what f gives up to degree n, and 0 past it
abbrev pub up_to : ℕ → (ℕ → ℕ) → ℕ → ℕ
up_to n f d = number_if (leb d n) (f d)

-- the number of columns at a degree
abbrev pub column_count : List ℕ → ℕ → ℕ → ℕ
column_count o n d = length (columns o n d)

-- that at each degree
abbrev pub column_counts : List ℕ → ℕ → List ℕ
column_counts o n = map (up_to n (column_count o n)) (below 10)

-- the rank at a degree of which cs has the number of columns
abbrev pub rank_cut : List Row → List ℕ → List ℕ → ℕ → ℕ
rank_cut t ps cs d = length (eliminate (stored t (get_or cs d 0)) ps).kept

-- the additions of its elimination
abbrev pub additions_cut : List Row → List ℕ → List ℕ → ℕ → ℕ
additions_cut t ps cs d = (eliminate (stored t (get_or cs d 0)) ps).additions
