-- The workspace while the first new point is looked for: a point whose row is no sum of the kept rows.
--   is_left kept row a     something is left of the row of the point a after it was reduced by the kept rows, as a test
--   kept_with kept row p   the kept rows, and behind them what is left of the row of the point p, if there is one
--   FindsNew ..            the contract of the search: the first new point's row is kept, if there is one
use Rattle.std.specs.Prelude.{◌≡◌, Bool, not, List, [], ◌∷◌, ◌++◌, ℕ, ◌+◌, ◌≤◌, take, drop, Option, None, Some}
use Rattle.std.specs.List.{find}
use Rattle.gf2.specs.Vector.{Row}
use Rattle.gf2.specs.Elimination.{is_zero, reduce}
use Rattle.point_rows.specs.Workspace.{stored}

-- something is left of the row of the point
abbrev pub is_left : List Row → (ℕ → Row) → ℕ → Bool
is_left kept row a = not (is_zero (reduce kept (row a)).left)

-- the kept rows with what is left of the row of a point, if there is one
abbrev pub kept_with : List Row → (ℕ → Row) → Option ℕ → List Row
kept_with kept row None = kept
kept_with kept row (Some p) = kept ++ ((reduce kept (row p)).left ∷ [])

-- c columns of the rows in the places of the points ps are looked at after the first k rows of t were kept: then the first k' rows of t' are
pub record FindsNew (t t' : List Row) (k k' c : ℕ) (ps : List ℕ) : Type 0 where
  pub kept : take k' t' ≡ kept_with (take k t) (stored t c) (find (is_left (take k t) (stored t c)) ps)
  pub stays : drop 512 t' ≡ drop 512 t
  pub grows : k' ≤ k + 1
