-- Eliminations in the workspace: the kept rows are the first, and row 512 + a is for the point a.
--   Takes t t' k k' v n        one row is taken: what is left of it is kept or not
--   Eliminates t t' c ps k n   the rows in the places of points are taken
--   TakesAll ..                one row is taken, whatever the number of columns
--   EliminatesAll ..           the rows in the places of points are taken, whatever the number of columns
use Rattle.std.specs.Prelude.{◌≡◌, List, ℕ, ◌+◌, ◌≤◌, get_or, take, drop}
use Rattle.gf2.specs.Vector.{Row}
use Rattle.gf2.specs.Elimination.{is_zero, count, reduce, keep_unless, eliminate}
use Rattle.gf2.specs.Cut.{cut}
use Rattle.gf2.specs.Prefix.{kept_to, sum_to}
use Rattle.point_rows.specs.Workspace.{stored}

-- the row v is taken after the first k rows of t were kept: then the first k' rows of t' are, and n rows were added
pub record Takes (t t' : List Row) (k k' : ℕ) (v : Row) (n : ℕ) : Type 0 where
  pub kept : take k' t' ≡ keep_unless (is_zero (reduce (take k t) v).left) (take k t) (reduce (take k t) v).left
  pub additions : n ≡ count (reduce (take k t) v).added
  pub stays : drop 512 t' ≡ drop 512 t
  pub grows : k' ≤ k + 1
  pub few : n ≤ k

-- c columns of the rows in the places of the points ps are taken: k are kept, the first of t', n rows were added, and the places stay
pub record Eliminates (t t' : List Row) (c : ℕ) (ps : List ℕ) (k n : ℕ) : Type 0 where
  pub kept : (eliminate (stored t c) ps).kept ≡ take k t'
  pub additions : (eliminate (stored t c) ps).additions ≡ n
  pub stays : drop 512 t' ≡ drop 512 t

-- the row v is taken after the first k rows of t were kept: for each c its first c columns are, and the first c numbers of the tally grow by the additions
pub record TakesAll (t t' : List Row) (k k' : ℕ) (v : Row) (xs xs' : List ℕ) : Type 0 where
  pub kept : (c : ℕ) → let left : Row = (reduce (kept_to c (take k t)) (cut c v)).left in kept_to c (take k' t') ≡ keep_unless (is_zero left) (kept_to c (take k t)) left
  pub additions : (c : ℕ) → sum_to c xs' ≡ sum_to c xs + count (reduce (kept_to c (take k t)) (cut c v)).added
  pub stays : drop 512 t' ≡ drop 512 t
  pub grows : k' ≤ k + 1
  pub few : (i : ℕ) → get_or xs' i 0 ≤ get_or xs i 0 + k

-- the rows in the places of the points ps are taken: for each c the first c columns are, with the kept rows among the first k of t' and the first c numbers of the tally as additions
pub record EliminatesAll (t t' : List Row) (ps : List ℕ) (k : ℕ) (xs : List ℕ) : Type 0 where
  pub kept : (c : ℕ) → (eliminate (stored t c) ps).kept ≡ kept_to c (take k t')
  pub additions : (c : ℕ) → (eliminate (stored t c) ps).additions ≡ sum_to c xs
  pub stays : drop 512 t' ≡ drop 512 t
