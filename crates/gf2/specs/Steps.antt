-- The rows of a table while one of them is reduced and kept; the kept rows are the first.
--   row_of t j                  row j of a list of rows, empty past its end
--   Pivots ps t k               ps has the pivots of the first k rows of t, each below 512: no such row of 512 columns is zero
--   Reduces k row t t' n        a row of t is reduced by the first k rows, with n additions; t' is what the rows are then
--   Places ps k s               the rows at the first k places of ps are rows from 512 on, and none is row s
--   reduced_both k row s ps t   the rows t after a row was reduced by the first k rows and, for each row added to it, the row at its place of ps was added to row s
--   one_more_unless b k         k + 1, or k
use Rattle.std.specs.Prelude.{◌≡◌, Bool, true, false, ◌≢◌, List, [], map, ℕ, ◌+◌, ◌≤◌, ◌<◌, take, get_or, set}
use Rattle.gf2.specs.Vector.{Row, add, total, chosen}
use Rattle.gf2.specs.Elimination.{pivot, count, Reduced, reduce}

-- row j of a list of rows, empty past its end
abbrev pub row_of : List Row → ℕ → Row
row_of t j = get_or t j []

-- the pivots of the first k rows, each below 512
abbrev pub Pivots : List ℕ → List Row → ℕ → Type 0
Pivots ps t k = (j : ℕ) → j < k → (get_or ps j 0 ≡ pivot (row_of t j)) × (get_or ps j 0 < 512)

-- a row of t is reduced by the first k rows: what is left of it stands there in t', the other rows are as they were, and n rows were added
pub record Reduces (k row : ℕ) (t t' : List Row) (n : ℕ) : Type 0 where
  pub rows : t' ≡ set t row (reduce (take k t) (row_of t row)).left
  pub additions : n ≡ count (reduce (take k t) (row_of t row)).added

-- the rows at the first k places are rows from 512 on, and none is row s
abbrev pub Places : List ℕ → ℕ → ℕ → Type 0
Places ps k s = (j : ℕ) → j < k → (512 ≤ get_or ps j 0) × (get_or ps j 0 < 1024) × (get_or ps j 0 ≢ s)

-- a row is reduced by the first k rows, and for each of them that is added to it the row at its place is added to row s
unfoldable pub reduced_both : ℕ → ℕ → ℕ → List ℕ → List Row → List Row
reduced_both k row s ps t =
    let m : Reduced = reduce (take k t) (row_of t row) in
    set (set t row m.left) s (add (row_of t s) (total (chosen m.added (map (row_of t) (take k ps)))))

-- k + 1, or k
abbrev pub one_more_unless : Bool → ℕ → ℕ
one_more_unless true k = k
one_more_unless false k = k + 1
