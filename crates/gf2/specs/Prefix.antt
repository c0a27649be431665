-- Elimination at fewer columns: the rows are cut, with zeros from a column on.
--   cons_unless b x xs          one more at the front of a list, or none
--   kept_to c rs                the rows cut to c columns, without those of which nothing is left
--   count_to c ps               how many numbers are below c
--   points_below c ps qs        those of the points qs whose pivots, at the same places of ps, are below c
--   sum_to c xs                 the sum of the first c numbers
--   AtMost m xs                 each number is at most m
--   Tallies k row t t' xs xs'   a row of t is reduced by the first k rows, and the tally xs counts the additions by pivot
use Rattle.std.specs.Prelude.{◌≡◌, Bool, true, false, List, [], ◌∷◌, map, ℕ, zero, suc, ◌+◌, ◌≤◌, ltb, get_or, set, take}
use Rattle.gf2.specs.Vector.{Row, chosen, digit}
use Rattle.gf2.specs.Elimination.{is_zero, count, reduce}
use Rattle.gf2.specs.Cut.{cut}
use Rattle.gf2.specs.Steps.{row_of}

-- one more at the front of a list, or none
unfoldable pub cons_unless : Bool → Row → List Row → List Row
cons_unless true x xs = xs
cons_unless false x xs = x ∷ xs

-- the rows cut to c columns that are not zero
unfoldable pub kept_to : ℕ → List Row → List Row
unfolding cons_unless
kept_to c [] = []
kept_to c (r ∷ rs) = cons_unless (is_zero (cut c r)) (cut c r) (kept_to c rs)

-- how many numbers are below c
unfoldable pub count_to : ℕ → List ℕ → ℕ
count_to c [] = 0
count_to c (p ∷ ps) = digit (ltb p c) + count_to c ps

-- the points whose pivots are below c
abbrev pub points_below : ℕ → List ℕ → List ℕ → List ℕ
points_below c ps qs = chosen (map (λ p. ltb p c) ps) qs

-- the sum of the first c numbers
unfoldable pub sum_to : ℕ → List ℕ → ℕ
sum_to zero xs = 0
sum_to (suc c) [] = 0
sum_to (suc c) (x ∷ xs) = x + sum_to c xs

-- each number is at most m
abbrev pub AtMost : ℕ → List ℕ → Type 0
AtMost m xs = (i : ℕ) → get_or xs i 0 ≤ m

-- a row is reduced by the first k rows; for each c the first c numbers of the tally grow by the additions that the rows cut to c columns make
pub record Tallies (k row : ℕ) (t t' : List Row) (xs xs' : List ℕ) : Type 0 where
  pub rows : t' ≡ set t row (reduce (take k t) (row_of t row)).left
  pub additions : (c : ℕ) → sum_to c xs' ≡ sum_to c xs + count (reduce (kept_to c (take k t)) (cut c (row_of t row))).added
  pub few : (i : ℕ) → get_or xs' i 0 ≤ get_or xs i 0 + k
