-- The elimination of docs/SPECIFICATION.md, 'Elimination': points are taken in order, and the row of each is reduced by
-- the rows kept so far.
--   pivot v                the first column where v has a one
--   is_zero v              whether v is zero
--   count c                how many members a choice chooses
--   Cleared kept v         v is zero at the pivot of each kept row
--   Echelon kept           each row has a one at its pivot, and all later rows have a zero there
--   Reduced                what is left of a row after it was reduced, and which rows were added to it
--   add_if b v r           r is added to v, or not
--   reduce kept v          the row v is reduced by the kept rows: it meets them in the order kept
--   Elimination            what is kept of the rows of points, its combinations, the kept points, the number of additions
--   nothing                no point is taken yet
--   keep_unless b xs x     one more at the end of a list, or none
--   take_point row e a     one point more, which is kept or not
--   take_points row e ps   more points, in order
--   eliminate row ps       what elimination finds when it takes the points ps in order, each with its row
use Rattle.std.specs.Prelude.{◌≡◌, Bool, true, false, ◌&&◌, not, List, [], ◌∷◌, ◌++◌, ℕ, zero, suc, ◌+◌}
use Rattle.gf2.specs.Vector.{Row, entry, add, total, unit, Each, Choice, chosen}

-- the first column with a one, its first nonzero column; the length of the row where there is none
unfoldable pub pivot : Row → ℕ
pivot [] = zero
pivot (true ∷ v) = zero
pivot (false ∷ v) = suc (pivot v)

-- no entry is one
unfoldable pub is_zero : Row → Bool
is_zero [] = true
is_zero (b ∷ v) = not b && is_zero v

-- how many a choice chooses
unfoldable pub count : Choice → ℕ
count [] = zero
count (true ∷ bs) = suc (count bs)
count (false ∷ bs) = count bs

-- v is zero at the pivot of each kept row
abbrev pub Cleared : List Row → Row → Type 0
Cleared kept v = Each (λ r. entry v (pivot r) ≡ false) kept

-- each row has a one at its pivot, and every later row has a zero there
abbrev pub Echelon : List Row → Type 0
Echelon [] = Unit {0}
Echelon (r ∷ rs) = (entry r (pivot r) ≡ true) × Each (λ s. entry s (pivot r) ≡ false) rs × Echelon rs

-- what is left of a row after it was reduced, and which rows were added to it
pub record Reduced : Type 0 where
  pub left : Row
  pub added : Choice

-- a row is added to another, or not
unfoldable pub add_if : Bool → Row → Row → Row
add_if true v r = add v r
add_if false v r = v

-- the row meets the kept rows in the order kept: where it has a one in a kept row's first nonzero column, that row is added to it
unfoldable pub reduce : List Row → Row → Reduced
reduce [] v = record { left = v; added = [] }
reduce (r ∷ rs) v =
    let b : Bool = entry v (pivot r) in
    let m : Reduced = reduce rs (add_if b v r) in
    record { left = m.left; added = b ∷ m.added }

-- what elimination has found
pub record Elimination : Type 0 where
  -- what was left of the row of each kept point: a basis of the span of the rows taken
  pub kept : List Row
  -- for each of these its combination, the points whose rows sum to it, as a row over points
  pub combinations : List Row
  -- the kept points
  pub points : List ℕ
  -- the number of times that one row was added to another
  pub additions : ℕ

-- no point is taken yet
abbrev pub nothing : Elimination
nothing = record { kept = []; combinations = []; points = []; additions = 0 }

-- one more at the end of a list, or none
unfoldable pub keep_unless : {A : Type 0} → Bool → List A → A → List A
keep_unless true xs x = xs
keep_unless false xs x = xs ++ (x ∷ [])

-- one point more: what is left of its row is kept unless it is zero
unfoldable pub take_point : (ℕ → Row) → Elimination → ℕ → Elimination
take_point row e a =
    let m : Reduced = reduce e.kept (row a) in
    let none : Bool = is_zero m.left in
    record {
      kept = keep_unless none e.kept m.left;
      combinations = keep_unless none e.combinations (add (unit a) (total (chosen m.added e.combinations)));
      points = keep_unless none e.points a;
      additions = e.additions + count m.added;
    }

-- more points, in order
unfoldable pub take_points : (ℕ → Row) → Elimination → List ℕ → Elimination
take_points row e [] = e
take_points row e (a ∷ ps) = take_points row (take_point row e a) ps

-- the points of a list, in order
abbrev pub eliminate : (ℕ → Row) → List ℕ → Elimination
eliminate row ps = take_points row nothing ps
