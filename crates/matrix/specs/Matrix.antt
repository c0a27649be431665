-- The matrix of points against monomials up to a degree: docs/SPECIFICATION.md, 'Elimination'.
--   eliminated o n d ps   the elimination of the rows of the points ps
--   rank_of o n d ps      how many of them it keeps
--   choice o n d x        the polynomial that chooses the columns where the row x is one
use Rattle.std.specs.Prelude.{List, ℕ, length}
use Rattle.cube.specs.NumberLists.{lists}
use Rattle.order.specs.Order.{columns}
use Rattle.gf2.specs.Vector.{Row, chosen}
use Rattle.gf2.specs.Elimination.{Elimination, eliminate}
use Rattle.point_rows.specs.Rows.{row}
use Rattle.polynomial.specs.Polynomial.{Polynomial}

-- the elimination of the rows of points
unfoldable pub eliminated : List ℕ → ℕ → ℕ → List ℕ → Elimination
eliminated o n d ps = eliminate (row o n d) ps

-- how many rows it keeps
abbrev pub rank_of : List ℕ → ℕ → ℕ → List ℕ → ℕ
rank_of o n d ps = length (eliminated o n d ps).kept

-- the exponents of the columns where a row is one
unfoldable pub choice : List ℕ → ℕ → ℕ → Row → Polynomial
unfolding lists
choice o n d x = lists (chosen x (columns o n d))
