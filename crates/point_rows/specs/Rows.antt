-- The row of a point in the matrix of points against monomials: docs/SPECIFICATION.md, 'Elimination'.
--   monomials us a   the monomials of the exponents us at the point a
--   row o n d a      the row of the point a at degree d: a column for each exponent of weight at most d, in the order o
--   rows o n d ps    the rows of the points ps
use Rattle.std.specs.Prelude.{List, map, ℕ}
use Rattle.cube.specs.Cube.{within}
use Rattle.order.specs.Order.{columns}
use Rattle.gf2.specs.Vector.{Row}

-- the monomials of a list of exponents at a point
abbrev pub monomials : List ℕ → ℕ → Row
monomials us a = map (λ u. within u a) us

-- the monomials of the columns at a point
abbrev pub row : List ℕ → ℕ → ℕ → ℕ → Row
row o n d a = monomials (columns o n d) a

-- the rows of points
abbrev pub rows : List ℕ → ℕ → ℕ → List ℕ → List Row
rows o n d ps = map (row o n d) ps
