-- Rows reduced by the rows of an echelon list.
--   is_zero_lem               a row passes the test is_zero just if it is zero
--   entry_pivot           a row that is not zero has a one at its pivot
--   count_append          two choices joined choose what both choose
--   reduce_snoc           the last kept row is met last
--   reduce_length         each kept row is added or not
--   reduce_few            there is at most one addition with each kept row
--   reduce_cleared        what is left is zero at each pivot
--   reduce_total          what was added is the total of the rows chosen by 'added'
--   reduce_sum            what was added is a sum of kept rows
--   first_bit             at the first pivot a total has a one exactly when the first row is chosen
--   sum_cleared           a sum of the rows of an echelon list that is zero at each pivot is zero
--   echelon_independent   the rows of an echelon list are independent
--   reduce_zero           nothing is left exactly of the sums of kept rows
--   reduce_echelon        with what is left of a row, if anything, the list stays echelon
use mathlib.Core.Path.{◌≡◌, refl, sym, ap, ◌∙◌}
use mathlib.Core.Logic.{◌↔◌}
use mathlib.Core.Bool.{Bool, true, false, and-true, and-false, false≢true}
use mathlib.Core.List.{List, [], ◌∷◌, ◌++◌}
use Prim.Native.Nat.{ℕ, suc, ◌+◌, ◌≤◌}
use native.Mathlib.Omega.{arith}
use lib.ListN.{length}
use Rattle.gf2.specs.Vector.{Row, entry, add, total, Zero, Same, Each, Choice, chosen, SumOf}
use Rattle.gf2.specs.Rank.{Independent}
use Rattle.gf2.specs.Elimination.{pivot, is_zero, count, Cleared, Echelon, Reduced, add_if, reduce}
use Rattle.gf2.proofs.Bits.{bits}
use Rattle.gf2.proofs.Each.{each_map, each_append}
use Rattle.gf2.proofs.Dot.{zero_cons, entry_add, entry_add_if}
use Rattle.gf2.proofs.Chosen.{entry_total, total_zero}
use Rattle.gf2.proofs.Sums.{sum_same, sum_add}

-- a row passes the test is_zero just if it is zero
pub is_zero_lem : (v : Row) → (is_zero v ≡ true) ↔ Zero v
unfolding is_zero
is_zero_lem [] = (λ e c. refl, λ z. refl)
is_zero_lem (true ∷ v) = (λ e. absurd (false≢true e), λ z. absurd (false≢true (sym (z 0))))
is_zero_lem (false ∷ v) = (λ e. zero_cons v ((is_zero_lem v).0 e), λ z. (is_zero_lem v).1 (λ c. z (suc c)))

-- a row that is not zero has a one at its pivot
pub entry_pivot : (v : Row) → is_zero v ≡ false → entry v (pivot v) ≡ true
unfolding is_zero pivot
entry_pivot [] e = cc
entry_pivot (true ∷ v) e = refl
entry_pivot (false ∷ v) e = entry_pivot v e

-- a choice chooses no more than it has places
count_few : (c : Choice) → count c ≤ length c
unfolding count
count_few [] = omega arith
count_few (true ∷ c) = omega (arith, count_few c)
count_few (false ∷ c) = omega (arith, count_few c)

-- two choices joined choose what both choose
pub count_append : (a b : Choice) → count (a ++ b) ≡ count a + count b
unfolding count
count_append [] b = omega arith
count_append (true ∷ a) b = omega (arith, count_append a b)
count_append (false ∷ a) b = count_append a b

-- the last kept row is met last
pub reduce_snoc : (kept : List Row) (r v : Row) → let m : Reduced = reduce kept v in let b : Bool = entry m.left (pivot r) in
    reduce (kept ++ (r ∷ [])) v ≡ record { left = add_if b m.left r; added = m.added ++ (b ∷ []) }
unfolding reduce
reduce_snoc [] r v = refl
reduce_snoc (s ∷ kept) r v = rw (reduce_snoc kept r (add_if (entry v (pivot s)) v s))

-- each kept row is added or not
pub reduce_length : (kept : List Row) (v : Row) → length (reduce kept v).added ≡ length kept
unfolding reduce
reduce_length [] v = refl
reduce_length (r ∷ kept) v = ap suc (reduce_length kept _)

-- there is at most one addition with each kept row
pub reduce_few : (kept : List Row) (v : Row) → count (reduce kept v).added ≤ length kept
reduce_few kept v = omega (arith, count_few (reduce kept v).added, reduce_length kept v)

-- where all kept rows are zero, meeting them changes nothing
reduce_entry : (kept : List Row) (v : Row) (c : ℕ) → Each (λ r. entry r c ≡ false) kept → entry (reduce kept v).left c ≡ entry v c
unfolding reduce
reduce_entry [] v c zs = refl
reduce_entry (r ∷ kept) v c zs = reduce_entry kept _ c zs.1 ∙ simp (entry_add_if, zs.0, and-false, bits)

-- what is left is zero at each pivot
pub reduce_cleared : (kept : List Row) → Echelon kept → (v : Row) → Cleared kept (reduce kept v).left
unfolding reduce
reduce_cleared [] ech v = tt
reduce_cleared (r ∷ kept) ech v = (reduce_entry kept _ (pivot r) ech.1 ∙ simp (entry_add_if, ech.0, and-true, bits), reduce_cleared kept ech.2 _)

-- what was added is the total of the rows chosen by 'added'
pub reduce_total : (kept : List Row) (v : Row) → Same (total (chosen (reduce kept v).added kept)) (add v (reduce kept v).left)
unfolding reduce chosen total
reduce_total [] v c = simp (entry_add, bits)
reduce_total (r ∷ kept) v c = simp (entry_total, reduce_total kept (add_if (entry v (pivot r)) v r) c, entry_add, entry_add_if, bits)

-- what was added is a sum of kept rows
pub reduce_sum : (kept : List Row) (v : Row) → SumOf kept (add v (reduce kept v).left)
reduce_sum kept v = record { choice = (reduce kept v).added; sums = reduce_total kept v }

-- at the first pivot a total has a one exactly when the first row is chosen
pub first_bit : (r : Row) (kept : List Row) → Echelon (r ∷ kept) → (b : Bool) (a : Choice)
    → entry (total (chosen (b ∷ a) (r ∷ kept))) (pivot r) ≡ b
first_bit r kept ech b a = simp (entry_total, ech.0, total_zero kept (pivot r) ech.1 a, and-true, bits)

-- a total that is zero at each pivot is zero
total_cleared : (kept : List Row) → Echelon kept → (a : Choice) → Cleared kept (total (chosen a kept)) → Zero (total (chosen a kept))
unfolding chosen total
total_cleared kept ech [] z c = refl
total_cleared [] ech (b ∷ a) z c = refl
total_cleared (r ∷ kept) ech (true ∷ a) z c = cc (first_bit r kept ech true a, z.0)
total_cleared (r ∷ kept) ech (false ∷ a) z c = total_cleared kept ech.2 a z.1 c

-- a sum of the rows of an echelon list that is zero at each pivot is zero
pub sum_cleared : (kept : List Row) → Echelon kept → (v : Row) → SumOf kept v → Cleared kept v → Zero v
sum_cleared kept ech v s z c = sym (s.sums c) ∙ total_cleared kept ech s.choice (each_map (λ r e. s.sums (pivot r) ∙ e) kept z) c

-- the rows of an echelon list are independent
pub echelon_independent : (kept : List Row) → Echelon kept → Independent kept
unfolding chosen total
echelon_independent [] ech [] e z = refl
echelon_independent [] ech (b ∷ a) e z = absurd (omega arith)
echelon_independent (r ∷ kept) ech [] e z = absurd (omega arith)
echelon_independent (r ∷ kept) ech (true ∷ a) e z = cc (first_bit r kept ech true a, z (pivot r))
echelon_independent (r ∷ kept) ech (false ∷ a) e z = ap (λ x. false ∷ x) (echelon_independent kept ech.2 a (omega arith) z)

-- nothing is left exactly of the sums of kept rows
pub reduce_zero : (kept : List Row) → Echelon kept → (v : Row) → Zero (reduce kept v).left ↔ SumOf kept v
reduce_zero kept ech v = (
  λ z. sum_same (λ c. simp (entry_add, z, bits)) (reduce_sum kept v),
  λ s. sum_cleared kept ech _ (left s) (reduce_cleared kept ech v),
)
  where
    left : SumOf kept v → SumOf kept (reduce kept v).left
    left s = sum_same (λ c. simp (entry_add, bits)) (sum_add s (reduce_sum kept v))

-- a list stays echelon with one more row that is zero at each pivot and not zero
echelon_snoc : (kept : List Row) → Echelon kept → (v : Row) → Cleared kept v → entry v (pivot v) ≡ true → Echelon (kept ++ (v ∷ []))
echelon_snoc [] ech v cleared one = (one, tt, tt)
echelon_snoc (r ∷ kept) ech v cleared one = (
  ech.0,
  each_append (λ s. entry s (pivot r) ≡ false) kept (v ∷ []) ech.1 (cleared.0, tt),
  echelon_snoc kept ech.2 v cleared.1 one,
)

-- with what is left of a row, if anything, the list stays echelon
pub reduce_echelon : (kept : List Row) → Echelon kept → (v : Row) → is_zero (reduce kept v).left ≡ false
    → Echelon (kept ++ ((reduce kept v).left ∷ []))
reduce_echelon kept ech v some = echelon_snoc kept ech (reduce kept v).left (reduce_cleared kept ech v) (entry_pivot (reduce kept v).left some)
