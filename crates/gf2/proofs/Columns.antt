-- The pivots of the kept rows are the columns that are no sum of the columns before them.
--   entry_map           a row of values, one for each member of a list
--   entry_columns       a sum of columns holds parities of the rows
--   Tied c rs           in every row, entry c is the parity with one row that is zero from c on
--   tied_column         column c is tied exactly when it is a sum of the columns before it
--   tied_sums           sums of rows are tied as the rows are
--   zero_before_pivot   a row is zero before its pivot
--   pivot_new           a column is the pivot of a kept row exactly when it is no sum of the columns before it
use mathlib.Core.Path.{◌≡◌, refl, sym, ap, ap₂, ◌∙◌}
use mathlib.Core.Logic.{◌↔◌, ◌≢◌, ◌⊎◌, inl, inr, ⊎_elim}
use mathlib.Core.Bool.{Bool, true, false, xor, ◌&&◌, and-true, and-false, false≢true}
use mathlib.Core.List.Memᴰ
use mathlib.Core.List.{List, [], ◌∷◌, map, Memᴰ}
use Prim.Native.Nat.{ℕ, zero, suc, ◌≤◌, ◌<◌}
use native.Mathlib.Decide.{ℕ_discrete, dec_lt}
use native.Mathlib.Omega.{arith}
use lib.ListN.{length, get_or, take, drop, length-take, get_or-map, get_or-eq_default}
use lib.Seq.{get_or-take}
use Rattle.gf2.specs.Vector.{Row, entry, total, dot, Same, Each, Choice, chosen, SumOf}
use Rattle.gf2.specs.Elimination.{pivot, Echelon, eliminate}
use Rattle.gf2.specs.Solve.{flip}
use Rattle.gf2.specs.Columns.{column, columns_from, columns_before}
use Rattle.gf2.proofs.Bits.{bits}
use Rattle.gf2.proofs.Each.{each_map, each_map₂, each_at, at_each}
use Rattle.gf2.proofs.Dot.{dot_comm, linear_same, dot_apart, dot_zero, entry_linear, dot_linear}
use Rattle.gf2.proofs.Chosen.{entry_total}
use Rattle.gf2.proofs.Sums.{linear_sum}
use Rattle.gf2.proofs.BackSubstitution.{flip_other, dot_flip, flip_later}
use Rattle.gf2.proofs.Kept.{kept_echelon, kept_sums, rows_sums}

-- a parity's first column
dot_drop : (b : Bool) (x w : Row) (c : ℕ) → dot (b ∷ x) (drop c w) ≡ xor (b && entry w c) (dot x (drop (suc c) w))
unfolding dot
dot_drop b x [] zero = simp (and-false, dot_zero x [] (λ d. refl), bits)
dot_drop b x [] (suc c) = simp (and-false, dot_zero x [] (λ d. refl), bits)
dot_drop b x (a ∷ w) zero = refl
dot_drop b x (a ∷ w) (suc c) = dot_drop b x w c

-- the value for the member at a place
pub entry_map : (t : ℕ → Bool) (xs : List ℕ) (c : ℕ) → c < length xs → entry (map t xs) c ≡ t (get_or xs c 0)
entry_map t [] c l = absurd (omega arith)
entry_map t (x ∷ xs) zero l = refl
entry_map t (x ∷ xs) (suc c) l = entry_map t xs c (omega arith)

-- a column holds the entries of the rows
entry_column : (c : ℕ) (rs : List Row) (i : ℕ) → entry (column c rs) i ≡ entry (get_or rs i []) c
entry_column c rs i = get_or-map (λ r. entry r c) rs i []

-- a sum of columns holds parities of the rows
pub entry_columns : (x : Choice) (c n : ℕ) (rs : List Row) (i : ℕ)
    → entry (total (chosen x (columns_from c n rs))) i ≡ dot (take n x) (drop c (get_or rs i []))
unfolding columns_from chosen total dot
entry_columns [] c zero rs i = refl
entry_columns [] c (suc n) rs i = refl
entry_columns (b ∷ x) c zero rs i = refl
entry_columns (b ∷ x) c (suc n) rs i =
    entry_total b x (column c rs) (columns_from (suc c) n rs) i
    ∙ ap₂ (λ p q. xor (b && p) q) (entry_column c rs i) (entry_columns x (suc c) n rs i)
    ∙ sym (dot_drop b (take n x) (get_or rs i []) c)

-- in every row, entry c is the parity with one row that is zero from c on
pub record Tied (c : ℕ) (rs : List Row) : Type 0 where
  pub by : Row
  pub before : (d : ℕ) → c ≤ d → entry by d ≡ false
  pub even : Each (λ r. dot by r ≡ entry r c) rs

-- the first c columns of a row, and zeros
take_zero : (c : ℕ) (x : Row) (d : ℕ) → c ≤ d → entry (take c x) d ≡ false
take_zero c x d h = get_or-eq_default (take c x) false (simp length-take (omega arith))

-- of a row that is zero from c on they are all
take_same : (c : ℕ) (x : Row) → ((d : ℕ) → c ≤ d → entry x d ≡ false) → Same (take c x) x
take_same c x z d = go (dec_lt d c)
  where
    go : Dec (d < c) → entry (take c x) d ≡ entry x d
    go (yes h) = get_or-take c x d false h
    go (no h) = take_zero c x d (omega arith) ∙ sym (z d (omega arith))

-- column c is tied exactly when it is a sum of the columns before it
pub tied_column : (c : ℕ) (rs : List Row) → Tied c rs ↔ SumOf (columns_before c rs) (column c rs)
tied_column c rs = (
  λ t. record {
    choice = t.by;
    sums = λ i. entry_columns t.by 0 c rs i ∙ same t (get_or rs i []) ∙ at t i ∙ sym (entry_column c rs i);
  },
  λ s. record {
    by = take c s.choice;
    before = take_zero c s.choice;
    even = at_each (λ r. dot (take c s.choice) r ≡ entry r c) [] rs
        (λ i. sym (entry_columns s.choice 0 c rs i) ∙ s.sums i ∙ entry_column c rs i);
  },
)
  where
    at : (t : Tied c rs) (i : ℕ) → dot t.by (get_or rs i []) ≡ entry (get_or rs i []) c
    at t = each_at (λ r. dot t.by r ≡ entry r c) (dot_zero t.by [] (λ d. refl)) rs t.even

    same : (t : Tied c rs) (w : Row) → dot (take c t.by) w ≡ dot t.by w
    same t w = dot_comm (take c t.by) w ∙ linear_same (dot_linear w) (take c t.by) t.by (take_same c t.by t.before) ∙ dot_comm w t.by

-- sums of rows are tied as the rows are
pub tied_sums : (c : ℕ) (rs ts : List Row) → Each (SumOf rs) ts → Tied c rs → Tied c ts
tied_sums c rs ts es t = record {
  by = t.by;
  before = t.before;
  even = each_map (λ v. linear_sum (dot_linear t.by) (entry_linear c) t.even) ts es;
}

-- a row is zero before its pivot
pub zero_before_pivot : (v : Row) (c : ℕ) → c < pivot v → entry v c ≡ false
unfolding pivot
zero_before_pivot [] c h = refl
zero_before_pivot (true ∷ v) c h = absurd (omega arith)
zero_before_pivot (false ∷ v) zero h = refl
zero_before_pivot (false ∷ v) (suc c) h = zero_before_pivot v c (omega arith)

-- a row that is zero from c on is even with a row whose pivot is not before c
apart : (x : Row) (c : ℕ) → ((d : ℕ) → c ≤ d → entry x d ≡ false) → (w : Row) → c ≤ pivot w → dot x w ≡ false
apart x c z w h = dot_apart x w (λ d. go d (dec_lt d c))
  where
    go : (d : ℕ) → Dec (d < c) → entry x d && entry w d ≡ false
    go d (yes l) = rw (zero_before_pivot w d (omega arith)) (and-false (entry x d))
    go d (no l) = simp (z d (omega arith))

-- no pivot is tied
pivot_untied : (kept : List Row) → Echelon kept → (c : ℕ) → Memᴰ c (map pivot kept) → ¬ Tied c kept
pivot_untied [] ech c m t = Memᴰ.not-nil m
pivot_untied (r ∷ kept) ech c m t =
    let even : c ≡ pivot r → dot t.by r ≡ false = λ e. apart t.by c t.before r (omega arith) in
    let here : c ≡ pivot r → ⊥ = λ e. false≢true (sym (even e) ∙ t.even.0 ∙ ap (entry r) e ∙ ech.0) in
    ⊎_elim here (λ n. pivot_untied kept ech.2 c n (record { by = t.by; before = t.before; even = t.even.1 })) (Memᴰ.cases_cons m)

-- one more row is tied, if c is not its pivot
tied_cons : (r : Row) (kept : List Row) → Echelon (r ∷ kept) → (c : ℕ) → c ≢ pivot r → Tied c kept → Tied c (r ∷ kept)
tied_cons r kept ech c other t = go (dec_lt (pivot r) c)
  where
    b : Bool
    b = xor (entry r c) (dot t.by r)

    go : Dec (pivot r < c) → Tied c (r ∷ kept)
    go (yes l) = record {
      by = flip b t.by (pivot r);
      before = λ d h. flip_other b t.by (pivot r) d (omega arith) ∙ t.before d h;
      even = (simp (dot_flip, ech.0, and-true, bits), each_map₂ (λ s p q. p ∙ q) kept (flip_later b t.by (pivot r) kept ech.1) t.even);
    }
    go (no l) = record {
      by = t.by;
      before = t.before;
      even = (apart t.by c t.before r (omega arith) ∙ sym (zero_before_pivot r c (omega arith)), t.even);
    }

-- every column but the pivots is tied
pivot_or_tied : (kept : List Row) → Echelon kept → (c : ℕ) → Memᴰ c (map pivot kept) ⊎ Tied c kept
pivot_or_tied [] ech c = inr (record { by = []; before = λ d h. refl; even = tt })
pivot_or_tied (r ∷ kept) ech c = go (ℕ_discrete c (pivot r)) (pivot_or_tied kept ech.2 c)
  where
    go : Dec (c ≡ pivot r) → Memᴰ c (map pivot kept) ⊎ Tied c kept → Memᴰ c (map pivot (r ∷ kept)) ⊎ Tied c (r ∷ kept)
    go (yes e) rest = inl (Memᴰ.head e)
    go (no ne) (inl m) = inl (Memᴰ.tail m)
    go (no ne) (inr t) = inr (tied_cons r kept ech c ne t)

-- a column is the pivot of a kept row exactly when it is no sum of the columns before it
pub pivot_new : (row : ℕ → Row) (ps : List ℕ) (c : ℕ)
    → Memᴰ c (map pivot (eliminate row ps).kept) ↔ (¬ SumOf (columns_before c (map row ps)) (column c (map row ps)))
pivot_new row ps c = (
  λ m s. pivot_untied kept ech c m (tied_sums c rs kept (kept_sums row ps) ((tied_column c rs).1 s)),
  λ n. ⊎_elim (λ m. m) (λ t. absurd (n ((tied_column c rs).0 (tied_sums c kept rs (rows_sums row ps) t)))) (pivot_or_tied kept ech c),
)
  where
    rs : List Row
    rs = map row ps

    kept : List Row
    kept = (eliminate row ps).kept

    ech : Echelon kept
    ech = kept_echelon row ps
