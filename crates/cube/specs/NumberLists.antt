-- Lists of numbers.
--   up_from u k       the k numbers from u on, rising
--   below m           the numbers below m, rising
--   cons_if b x xs    x before the list xs, or not
--   select t xs       the members of a list that pass a test, in order
--   lists xs u        whether the number u stands in the list xs, as a test
--   is_empty xs       whether a list has no member
--   largest t xs      the largest t of a member of a list, 0 where there is none
--   Inside m xs       each number of the list is below m
--   all_below m t     each number below m passes a test, as a test
use Rattle.std.specs.Prelude.{Bool, true, false, ◌&&◌, ◌||◌, ℕ, zero, suc, ◌<◌, max, eqb}
use mathlib.Core.List.{List, [], ◌∷◌, Memᴰ}

-- the k numbers from u on
unfoldable pub up_from : ℕ → ℕ → List ℕ
up_from u zero = []
up_from u (suc k) = u ∷ up_from (suc u) k

-- the numbers below m
abbrev pub below : ℕ → List ℕ
below m = up_from 0 m

-- a number before a list, or not
unfoldable pub cons_if : Bool → ℕ → List ℕ → List ℕ
cons_if true x xs = x ∷ xs
cons_if false x xs = xs

-- the members that pass a test
unfoldable pub select : (ℕ → Bool) → List ℕ → List ℕ
unfolding cons_if
select t [] = []
select t (x ∷ xs) = cons_if (t x) x (select t xs)

-- whether a number stands in a list
unfoldable pub lists : List ℕ → ℕ → Bool
lists [] u = false
lists (x ∷ xs) u = eqb x u || lists xs u

-- a list has no member
unfoldable pub is_empty : List ℕ → Bool
is_empty [] = true
is_empty (x ∷ xs) = false

-- the largest t of a member
unfoldable pub largest : (ℕ → ℕ) → List ℕ → ℕ
largest t [] = 0
largest t (x ∷ xs) = max (t x) (largest t xs)

-- each number of the list is below m
abbrev pub Inside : ℕ → List ℕ → Type 0
Inside m xs = (u : ℕ) → Memᴰ u xs → u < m

-- each number below m passes a test
unfoldable pub all_below : ℕ → (ℕ → Bool) → Bool
all_below zero t = true
all_below (suc m) t = t m && all_below m t
