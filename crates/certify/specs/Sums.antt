-- The sums of the points of a set outside a part, in the workspace: row 512 + a is for the point a.
--   sum_at t c k ps a          the sum of the combinations of the rows that are added to the row of the point a
--   Sums t t' c k ps s b a     the sums of the points below a that are in the set s and outside the part b stand in their places, and nothing is left of their rows
--   NoSum t c k s b            of the row of a point that is in the set s and outside the part b the first k rows leave something
--   outside_row s b t a        the row in the place of the point a where it is in the set s and outside the part b, else none
--   word_of v k                number k of the row v: its 64 bits from bit 64 k on
--   written s b t              the 4,096 numbers of these rows
use Rattle.std.specs.Prelude.{◌≡◌, true, false, List, map, ℕ, ◌+◌, ◌*◌, ◌≤◌, ◌<◌, take, drop}
use Rattle.cube.specs.NumberLists.{below}
use Rattle.cube.specs.Mask.{points}
use Rattle.gf2.specs.Vector.{Row, add, total, chosen}
use Rattle.gf2.specs.Elimination.{is_zero, reduce}
use Rattle.gf2.specs.Cut.{zero_row}
use Rattle.gf2.specs.Steps.{row_of}
use Rattle.packed.specs.Packed.{number}
use Rattle.point_rows.specs.Workspace.{stored}
use Rattle.immunity.specs.Certificate.{row_if, number_at}
use Rattle.filter.specs.Outside.{is_outside}

-- the sum of the combinations of the rows that are added to the row of a point
unfoldable pub sum_at : List Row → ℕ → ℕ → List ℕ → ℕ → Row
sum_at t c k ps a = add zero_row (total (chosen (reduce (take k t) (stored t c a)).added (map (row_of t) (take k ps))))

-- the sums of the points below a that are in the set and outside the part stand in their places, and nothing is left of their rows; the kept rows, their combinations and the rows of the later points stay
pub record Sums (t t' : List Row) (c k : ℕ) (ps s b : List ℕ) (a : ℕ) : Type 0 where
  pub kept : take k t' ≡ take k t
  pub combinations : map (row_of t') (take k ps) ≡ map (row_of t) (take k ps)
  pub later : (j : ℕ) → a ≤ j → row_of t' (512 + j) ≡ row_of t (512 + j)
  pub sums : (j : ℕ) → j < a → is_outside (points s) (points b) j ≡ true → row_of t' (512 + j) ≡ sum_at t c k ps j
  pub nothing_left : (j : ℕ) → j < a → is_outside (points s) (points b) j ≡ true → is_zero (reduce (take k t) (stored t c j)).left ≡ true

-- of the row of a point that is in the set and outside the part the first k rows leave something: where they are kept rows, it is no sum of them
pub record NoSum (t : List Row) (c k : ℕ) (s b : List ℕ) : Type 0 where
  pub point : ℕ
  pub below : point < 512
  pub outside : is_outside (points s) (points b) point ≡ true
  pub left : is_zero (reduce (take k t) (stored t c point)).left ≡ false

-- the row in the place of a point that is in the set and outside the part, else none
unfoldable pub outside_row : List ℕ → List ℕ → List Row → ℕ → Row
unfolding row_if
outside_row s b t a = row_if (is_outside (points s) (points b) a) (row_of t (512 + a))

-- 64 bits of a row, from bit 64 k on
abbrev pub word_of : Row → ℕ → ℕ
word_of v k = number (take 64 (drop (64 * k) v))

-- the numbers of these rows
abbrev pub written : List ℕ → List ℕ → List Row → List ℕ
written s b t = map (number_at (outside_row s b t)) (below 4096)
