-- Additions counted by the pivot of the row added.
--   count_to_is       how many numbers are below c, in the library's word
--   sum_to_is         the sum of the first numbers, in the library's word
--   sum_few           a sum of numbers that are at most m
--   sum_zeros         numbers that are all zero
--   few_zeros         none of them is more than 0
--   more_if b xs p     number p is one larger, or not
--   tallies_reduces   the rows are as after a reduction
--   tallies_none      a row is reduced by no rows: nothing is counted
--   tallies_next      by one row more
use mathlib.Core.Path.{◌≡◌, refl, sym, ap, ◌∙◌}
use mathlib.Core.Bool.{Bool, true, false, cond}
use mathlib.Core.List.{List, [], ◌∷◌, ◌++◌}
use Prim.Native.Nat.{ℕ, zero, suc, ◌+◌, ◌*◌, ◌≤◌, ◌<◌}
use native.Mathlib.Nat.{suc-mul}
use native.Mathlib.Numerals.{add-one}
use native.Mathlib.Omega.{arith}
use native.Mathlib.Decide.{dec_lt}
use lib.Dec.{ltb}
use Rattle.std.proofs.lemmas.List.Recursion.{is_count_by}
use Rattle.std.proofs.lemmas.List.Sums.{sum_by-cons}
use Rattle.std.specs.List.{count_by, sum}
use lib.ListN.{length, get_or, set, take}
use lib.Seq.{take-suc, get_or-set_same, get_or-set_other}
use Rattle.gf2.specs.Vector.{Row, entry, Each, digit}
use Rattle.gf2.specs.Elimination.{pivot, is_zero, count, reduce, add_if, keep_unless}
use Rattle.gf2.specs.Cut.{cut}
use Rattle.gf2.specs.Steps.{row_of, Reduces}
use Rattle.gf2.specs.Prefix.{kept_to, count_to, sum_to, AtMost, Tallies}
use Rattle.gf2.proofs.Each.{each_taken}
use Rattle.gf2.proofs.Reducing.{reduce_snoc, count_append}
use Rattle.gf2.proofs.Steps.{reduces_none, reduced_row, reduces_next}
use Rattle.gf2.proofs.Prefix.{cut_below, cut_above, cut_met, kept_snoc, left_cut}
use Rattle.packed.specs.Packed.{zeros}

-- how many numbers are below c, in the library's word
pub count_to_is : (c : ℕ) (ps : List ℕ) → count_to c ps ≡ count_by (λ p. ltb p c) ps
unfolding count_to
count_to_is c = is_count_by (count_to c) (λ p. ltb p c) refl (λ p ps. one (ltb p c) (count_to c ps))
  where
    one : (b : Bool) (n : ℕ) → digit b + n ≡ cond b (1 + n) n
    one true n = refl
    one false n = omega arith

-- the sum of the first numbers, in the library's word
pub sum_to_is : (c : ℕ) (xs : List ℕ) → sum_to c xs ≡ sum (take c xs)
unfolding sum_to
sum_to_is zero xs = refl
sum_to_is (suc c) [] = refl
sum_to_is (suc c) (x ∷ xs) = ap (λ n. x + n) (sum_to_is c xs) ∙ sym (sum_by-cons (λ y. y) x (take c xs))

-- a sum of numbers that are at most m
pub sum_few : (c m : ℕ) (xs : List ℕ) → AtMost m xs → sum_to c xs ≤ c * m
unfolding sum_to
sum_few zero m xs h = omega arith
sum_few (suc c) m [] h = omega arith
sum_few (suc c) m (x ∷ xs) h = omega (arith, suc-mul c m, h 0, sum_few c m xs (λ i. h (suc i)))

-- numbers that are all zero
pub sum_zeros : (c n : ℕ) → sum_to c (zeros n) ≡ 0
unfolding sum_to zeros
sum_zeros zero n = refl
sum_zeros (suc c) zero = refl
sum_zeros (suc c) (suc n) = omega (arith, sum_zeros c n)

-- none is more than 0
pub few_zeros : (n m : ℕ) → AtMost m (zeros n)
unfolding zeros
few_zeros zero m i = omega arith
few_zeros (suc n) m zero = omega arith
few_zeros (suc n) m (suc i) = few_zeros n m i

-- the sum of the first numbers where one of them is one larger
sum_below_lem : (c : ℕ) (xs : List ℕ) (p : ℕ) → p < length xs → p < c
    → sum_to c (set xs p (get_or xs p 0 + 1)) ≡ sum_to c xs + 1
unfolding sum_to
sum_below_lem zero xs p h l = absurd (omega arith)
sum_below_lem (suc c) [] p h l = absurd (omega arith)
sum_below_lem (suc c) (x ∷ xs) zero h l = omega arith
sum_below_lem (suc c) (x ∷ xs) (suc p) h l = omega (arith, sum_below_lem c xs p (omega arith) (omega arith))

-- where one behind them is
sum_above : (c : ℕ) (xs : List ℕ) (p y : ℕ) → c ≤ p → sum_to c (set xs p y) ≡ sum_to c xs
unfolding sum_to
sum_above zero xs p y l = refl
sum_above (suc c) [] p y l = refl
sum_above (suc c) (x ∷ xs) zero y l = absurd (omega arith)
sum_above (suc c) (x ∷ xs) (suc p) y l = ap (λ n. x + n) (sum_above c xs p y (omega arith))

-- number p is one larger, or not
abbrev pub more_if : Bool → List ℕ → ℕ → List ℕ
more_if true xs p = set xs p (get_or xs p 0 + 1)
more_if false xs p = xs

-- no number is more than one larger
more_few : (b : Bool) (xs : List ℕ) (p i : ℕ) → p < length xs → get_or (more_if b xs p) i 0 ≤ get_or xs i 0 + 1
more_few true xs p i h = elim (dec_lt i p) [
  | yes l ↦ omega (arith, get_or-set_other xs p i (get_or xs p 0 + 1) 0 (omega arith))
  | no l ↦ elim (dec_lt p i) [
    | yes k ↦ omega (arith, get_or-set_other xs p i (get_or xs p 0 + 1) 0 (omega arith))
    | no k ↦
        let e : i ≡ p = omega arith in
        let same : get_or (set xs p (get_or xs p 0 + 1)) i 0 ≡ get_or xs i 0 + 1 = rw e (get_or-set_same xs p (get_or xs p 0 + 1) 0 h) in
        omega (arith, same)
  ]
]
more_few false xs p i h = omega arith

module _ (m : ℕ) (rs : List Row) (r v : Row) (f : Each (λ s. length s ≡ m) rs) (g : length r ≡ m) (h : length v ≡ m) (l : pivot r < m) where
  -- a cut row meets one row more: the tally of its pivot is one larger if the row is added
  tally_next : (c : ℕ) (xs : List ℕ) (b : Bool) (n : ℕ) → pivot r < length xs → b ≡ entry (reduce rs v).left (pivot r)
      → sum_to c xs ≡ n + count (reduce (kept_to c rs) (cut c v)).added
      → sum_to c (more_if b xs (pivot r)) ≡ n + count (reduce (kept_to c (rs ++ (r ∷ []))) (cut c v)).added
  unfolding keep_unless count
  tally_next c xs b n inside e s = rw (kept_snoc c rs r) (elim (dec_lt (pivot r) c) [
    | yes k ↦
        let some : is_zero (cut c r) ≡ false = cut_below c r (omega arith) k in
        let met : entry (reduce (kept_to c rs) (cut c v)).left (pivot (cut c r)) ≡ b =
        ap (λ w. entry w (pivot (cut c r))) (left_cut c m rs v f h) ∙ cut_met c (reduce rs v).left r some ∙ sym e in
        rw (some, reduce_snoc (kept_to c rs) (cut c r) (cut c v), met, count_append) (below b k)
    | no k ↦ rw (cut_above c r (omega arith)) (above b (omega arith) ∙ s)
  ])
    where
      below : (b : Bool) → pivot r < c
          → sum_to c (more_if b xs (pivot r)) ≡ n + (count (reduce (kept_to c rs) (cut c v)).added + count (b ∷ []))
      below true k = omega (arith, sum_below_lem c xs (pivot r) inside k, s)
      below false k = omega (arith, s)

      above : (b : Bool) → c ≤ pivot r → sum_to c (more_if b xs (pivot r)) ≡ sum_to c xs
      above true k = sum_above c xs (pivot r) _ k
      above false k = refl

-- the rows are as after a reduction
pub tallies_reduces : (k row : ℕ) (t t' : List Row) (xs ys : List ℕ) → Tallies k row t t' xs ys
    → Reduces k row t t' (count (reduce (take k t) (row_of t row)).added)
tallies_reduces k row t t' xs ys h = record { rows = h.rows; additions = refl }

module _ (t : List Row) (row m : ℕ) (long : (j : ℕ) → j < length t → length (row_of t j) ≡ m) (xs : List ℕ) where
  -- by no rows: nothing is counted
  pub tallies_none : Tallies 0 row t t xs xs
  unfolding reduce count kept_to
  tallies_none = record { rows = (reduces_none t row).rows; additions = λ c. omega arith; few = λ i. omega arith }

  -- by one row more
  pub tallies_next : (k : ℕ) (t' : List Row) (ys : List ℕ) → Tallies k row t t' xs ys → row < length t → k < row
      → pivot (row_of t k) < m → pivot (row_of t k) < length ys
      → (b : Bool) (t'' : List Row) → b ≡ entry (row_of t' row) (pivot (row_of t k)) → t'' ≡ set t' row (add_if b (row_of t' row) (row_of t' k))
      → Tallies (k + 1) row t t'' xs (more_if b ys (pivot (row_of t k)))
  tallies_next k t' ys h l s p q b t'' e f = record {
    rows = (reduces_next t row k t' _ reduced l b t'' s e f).rows;
    additions = λ c. rw (add-one k, take-suc t k [] (omega arith))
        (tally_next m (take k t) (row_of t k) (row_of t row) ((each_taken (λ r. length r ≡ m) [] k t (omega arith)).1 (λ j i. long j (omega arith)))
        (long k (omega arith)) (long row l) p c ys b (sum_to c xs) q (e ∙ ap (λ v. entry v (pivot (row_of t k))) (reduced_row t row k t' _ reduced l)) (h.additions c));
    few = λ i. omega (arith, h.few i, more_few b ys (pivot (row_of t k)) i q);
  }
    where
      reduced : Reduces k row t t' (count (reduce (take k t) (row_of t row)).added)
      reduced = tallies_reduces k row t t' xs ys h
