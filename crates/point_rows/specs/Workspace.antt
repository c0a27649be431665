-- The rows of points in the workspace: row 512 + a is for the point a.
--   fill_to_512 xs      the numbers xs, then 65535 up to 512 numbers
--   exponents o n       the exponents of n taps in the order o, then 65535, which lies within no point
--   filled us n t       the rows t with the monomials us at each point of n taps in its place
--   RowsFrom us n t a   those of the points from a on are in their places
--   Splits n a p q      p and q are points from a on whose common bits are a
--   stored t c a        the first c columns of the row in the place of the point a, continued by zeros
use Rattle.std.specs.Prelude.{◌≡◌, List, ◌++◌, map, ℕ, ◌+◌, ◌-◌, ◌≤◌, ◌<◌, ltb, length, take, drop, replicate}
use Rattle.std.specs.Int.Bits.{bit_and}
use Rattle.cube.specs.NumberLists.{below, select}
use Rattle.cube.specs.Cube.{size}
use Rattle.gf2.specs.Vector.{Row}
use Rattle.gf2.specs.Cut.{cut}
use Rattle.gf2.specs.Steps.{row_of}
use Rattle.point_rows.specs.Rows.{monomials}

-- numbers of a list, then 65535 up to 512 numbers
abbrev pub fill_to_512 : List ℕ → List ℕ
fill_to_512 xs = xs ++ replicate (512 - length xs) 65535

-- the exponents of n taps in order, then 65535
unfoldable pub exponents : List ℕ → ℕ → List ℕ
exponents o n = fill_to_512 (select (λ u. ltb u (size n)) o)

-- row 512 + a is the monomials us at the point a
unfoldable pub filled : List ℕ → ℕ → List Row → List Row
filled us n t = take 512 t ++ (map (monomials us) (below (size n)) ++ drop (512 + size n) t)

-- the rows of the points from a on are in their places
abbrev pub RowsFrom : List ℕ → ℕ → List Row → ℕ → Type 0
RowsFrom us n t a = (j : ℕ) → a ≤ j → j < size n → row_of t (512 + j) ≡ monomials us j

-- p and q are points from a on whose common bits are a
pub record Splits (n a p q : ℕ) : Type 0 where
  pub common : bit_and p q ≡ a
  pub above_p : a ≤ p
  pub above_q : a ≤ q
  pub inside_p : p < size n
  pub inside_q : q < size n

-- the first c columns of the row in the place of the point a, continued by zeros
abbrev pub stored : List Row → ℕ → ℕ → Row
stored t c a = cut c (row_of t (512 + a))
