-- Elimination at fewer columns: what is kept and left of rows that are cut.
--   length_cut     a row that is cut has its length
--   cut_all        a row cut past its end is as it was
--   cut_zero       a zero row that is cut is zero
--   cut_below      a row with its pivot below c is not zero after it was cut
--   cut_above      a row with its pivot from c on is
--   cut_met        what a row meets in a pivot before the cut
--   kept_snoc      one row more among those that are cut
--   kept_cut       one row more, which is kept or not
--   length_left    what is left of a row has its length
--   left_cut       what is left of a cut row is what is left of the row, cut
--   length_kept    how many rows are kept of cut rows
--   pivots_taken   the pivots of the first rows
use mathlib.Core.Path.{◌≡◌, refl, sym, ap, ap₂, ◌∙◌}
use mathlib.Core.Bool.{Bool, true, false, xor, true≢false}
use mathlib.Core.List.{List, [], ◌∷◌, ◌++◌, map}
use Prim.Native.Nat.{ℕ, zero, suc, ◌≤◌, ◌<◌}
use native.Mathlib.Omega.{arith}
use native.Mathlib.Decide.{dec_lt}
use borrow.Author.Tests.{lt-ltb, le-ltb}
use lib.ListN.{length, take}
use Rattle.gf2.specs.Vector.{Row, entry, add, Each}
use Rattle.gf2.specs.Elimination.{pivot, is_zero, reduce, add_if, keep_unless}
use Rattle.gf2.specs.Cut.{cut}
use Rattle.gf2.specs.Steps.{Pivots}
use Rattle.gf2.specs.Prefix.{cons_unless, kept_to, count_to}
use Rattle.gf2.proofs.Bits.{xor_false, xor_self}

-- a row that is cut has its length
pub length_cut : (c : ℕ) (v : Row) → length (cut c v) ≡ length v
unfolding cut
length_cut c [] = refl
length_cut zero (x ∷ v) = ap suc (length_cut zero v)
length_cut (suc c) (x ∷ v) = ap suc (length_cut c v)

-- a row cut past its end is as it was
pub cut_all : (c : ℕ) (v : Row) → length v ≤ c → cut c v ≡ v
unfolding cut
cut_all c [] l = refl
cut_all zero (x ∷ v) l = absurd (omega arith)
cut_all (suc c) (x ∷ v) l = ap (λ w. x ∷ w) (cut_all c v (omega arith))

-- a sum that is cut
cut_add : (c : ℕ) (v w : Row) → length v ≡ length w → cut c (add v w) ≡ add (cut c v) (cut c w)
unfolding cut add
cut_add c [] [] l = refl
cut_add c [] (y ∷ w) l = absurd (omega arith)
cut_add c (x ∷ v) [] l = absurd (omega arith)
cut_add zero (x ∷ v) (y ∷ w) l = rw (xor_self false) (ap (λ u. false ∷ u) (cut_add zero v w (omega arith)))
cut_add (suc c) (x ∷ v) (y ∷ w) l = ap (λ u. xor x y ∷ u) (cut_add c v w (omega arith))

-- the entries before the cut stay
entry_cut : (c : ℕ) (v : Row) (i : ℕ) → i < c → entry (cut c v) i ≡ entry v i
unfolding cut
entry_cut c [] i l = refl
entry_cut zero (x ∷ v) i l = absurd (omega arith)
entry_cut (suc c) (x ∷ v) zero l = refl
entry_cut (suc c) (x ∷ v) (suc i) l = entry_cut c v i (omega arith)

-- a zero row that is cut is zero
pub cut_zero : (c : ℕ) (v : Row) → is_zero v ≡ true → is_zero (cut c v) ≡ true
unfolding cut is_zero
cut_zero c [] e = refl
cut_zero zero (true ∷ v) e = cc
cut_zero zero (false ∷ v) e = cut_zero zero v e
cut_zero (suc c) (true ∷ v) e = cc
cut_zero (suc c) (false ∷ v) e = cut_zero c v e

-- nothing is left of a row that is cut to no columns
cut_none : (v : Row) → is_zero (cut 0 v) ≡ true
unfolding cut is_zero
cut_none [] = refl
cut_none (x ∷ v) = cut_none v

-- a row with its pivot below c is not zero after it was cut
pub cut_below : (c : ℕ) (v : Row) → pivot v < length v → pivot v < c → is_zero (cut c v) ≡ false
unfolding cut is_zero pivot
cut_below c [] h l = absurd (omega arith)
cut_below zero (x ∷ v) h l = absurd (omega arith)
cut_below (suc c) (true ∷ v) h l = refl
cut_below (suc c) (false ∷ v) h l = cut_below c v (omega arith) (omega arith)

-- a row with its pivot from c on is
pub cut_above : (c : ℕ) (v : Row) → c ≤ pivot v → is_zero (cut c v) ≡ true
unfolding cut is_zero pivot
cut_above c [] l = refl
cut_above zero (x ∷ v) l = cut_none v
cut_above (suc c) (true ∷ v) l = absurd (omega arith)
cut_above (suc c) (false ∷ v) l = cut_above c v (omega arith)

-- the pivot of a row of which something is left after it was cut
cut_pivot : (c : ℕ) (v : Row) → is_zero (cut c v) ≡ false → (pivot (cut c v) ≡ pivot v) × (pivot v < c)
unfolding cut is_zero pivot
cut_pivot c [] e = absurd (true≢false e)
cut_pivot zero (x ∷ v) e = absurd (true≢false (sym (cut_none v) ∙ e))
cut_pivot (suc c) (true ∷ v) e = (refl, omega arith)
cut_pivot (suc c) (false ∷ v) e = let later = cut_pivot c v e in (ap suc later.0, omega (arith, later.1))

-- adding a zero row changes nothing
add_zero_row : (v w : Row) → length w ≡ length v → is_zero w ≡ true → add v w ≡ v
unfolding add is_zero
add_zero_row [] [] l e = refl
add_zero_row [] (y ∷ w) l e = absurd (omega arith)
add_zero_row (x ∷ v) [] l e = refl
add_zero_row (x ∷ v) (true ∷ w) l e = cc
add_zero_row (x ∷ v) (false ∷ w) l e = rw (xor_false x) (ap (λ u. x ∷ u) (add_zero_row v w (omega arith) e))

-- a sum of rows of one length has their length
length_sum : (v w : Row) → length w ≡ length v → length (add v w) ≡ length v
unfolding add
length_sum [] w l = l
length_sum (x ∷ v) [] l = refl
length_sum (x ∷ v) (y ∷ w) l = ap suc (length_sum v w (omega arith))

-- the same where a row is added or not
length_sum_if : (b : Bool) (v w : Row) → length w ≡ length v → length (add_if b v w) ≡ length v
unfolding add_if
length_sum_if true v w l = length_sum v w l
length_sum_if false v w l = refl

-- what is left of a row has its length
pub length_left : (m : ℕ) (kept : List Row) (v : Row) → Each (λ r. length r ≡ m) kept → length v ≡ m → length (reduce kept v).left ≡ m
unfolding reduce
length_left m [] v f l = l
length_left m (r ∷ kept) v f l =
    length_left m kept (add_if (entry v (pivot r)) v r) f.1 (length_sum_if (entry v (pivot r)) v r (f.0 ∙ sym l) ∙ l)

module _ (c : ℕ) where
  -- a row that was added or not, and cut
  cut_add_if : (b : Bool) (v w : Row) → length w ≡ length v → cut c (add_if b v w) ≡ add_if b (cut c v) (cut c w)
  unfolding add_if
  cut_add_if true v w l = cut_add c v w (sym l)
  cut_add_if false v w l = refl

  -- a row with nothing left after the cut is added or not: nothing changes before the cut
  cut_same : (b : Bool) (v w : Row) → length w ≡ length v → is_zero (cut c w) ≡ true → cut c (add_if b v w) ≡ cut c v
  unfolding add_if
  cut_same true v w l e = cut_add c v w (sym l) ∙ add_zero_row (cut c v) (cut c w) (length_cut c w ∙ l ∙ sym (length_cut c v)) e
  cut_same false v w l e = refl

  -- what a row meets in a pivot before the cut
  pub cut_met : (v w : Row) → is_zero (cut c w) ≡ false → entry (cut c v) (pivot (cut c w)) ≡ entry v (pivot w)
  cut_met v w e = ap (entry (cut c v)) (cut_pivot c w e).0 ∙ entry_cut c v (pivot w) (cut_pivot c w e).1

  -- one row more at the end
  pub kept_snoc : (rs : List Row) (r : Row) → kept_to c (rs ++ (r ∷ [])) ≡ keep_unless (is_zero (cut c r)) (kept_to c rs) (cut c r)
  unfolding kept_to cons_unless keep_unless
  kept_snoc [] r = one (is_zero (cut c r)) (cut c r)
    where
      one : (z : Bool) (x : Row) → cons_unless z x [] ≡ keep_unless z [] x
      one true x = refl
      one false x = refl
  kept_snoc (s ∷ rs) r = ap (cons_unless (is_zero (cut c s)) (cut c s)) (kept_snoc rs r) ∙ two (is_zero (cut c s)) (is_zero (cut c r)) (cut c s) (cut c r) (kept_to c rs)
    where
      two : (y z : Bool) (v w : Row) (xs : List Row) → cons_unless y v (keep_unless z xs w) ≡ keep_unless z (cons_unless y v xs) w
      two true z v w xs = refl
      two false true v w xs = refl
      two false false v w xs = refl

  -- one row more, which is kept or not
  pub kept_cut : (rs : List Row) (v : Row) → kept_to c (keep_unless (is_zero v) rs v) ≡ keep_unless (is_zero (cut c v)) (kept_to c rs) (cut c v)
  unfolding keep_unless
  kept_cut rs v = go (is_zero v) refl
    where
      go : (z : Bool) → is_zero v ≡ z → kept_to c (keep_unless z rs v) ≡ keep_unless (is_zero (cut c v)) (kept_to c rs) (cut c v)
      go true e = rw (cut_zero c v e)
      go false e = kept_snoc rs v

  module _ (m : ℕ) where
    -- what is left of a cut row is what is left of the row, cut
    pub left_cut : (kept : List Row) (v : Row) → Each (λ r. length r ≡ m) kept → length v ≡ m → (reduce (kept_to c kept) (cut c v)).left ≡ cut c (reduce kept v).left
    unfolding reduce kept_to cons_unless
    left_cut [] v f l = refl
    left_cut (r ∷ kept) v f l =
        step (is_zero (cut c r)) refl (left_cut kept (add_if (entry v (pivot r)) v r) f.1 (length_sum_if (entry v (pivot r)) v r (f.0 ∙ sym l) ∙ l))
      where
        b : Bool
        b = entry v (pivot r)

        step : (z : Bool) → is_zero (cut c r) ≡ z → (reduce (kept_to c kept) (cut c (add_if b v r))).left ≡ cut c (reduce kept (add_if b v r)).left
            → (reduce (cons_unless z (cut c r) (kept_to c kept)) (cut c v)).left ≡ cut c (reduce kept (add_if b v r)).left
        step true e later = ap (λ w. (reduce (kept_to c kept) w).left) (sym (cut_same b v r (f.0 ∙ sym l) e)) ∙ later
        step false e later =
            ap (λ x. (reduce (kept_to c kept) (add_if x (cut c v) (cut c r))).left) (cut_met v r e)
            ∙ ap (λ w. (reduce (kept_to c kept) w).left) (sym (cut_add_if b v r (f.0 ∙ sym l))) ∙ later

  -- how many rows are kept of cut rows
  pub length_kept : (rs : List Row) → Each (λ r. pivot r < length r) rs → length (kept_to c rs) ≡ count_to c (map pivot rs)
  unfolding kept_to cons_unless count_to
  length_kept [] f = refl
  length_kept (r ∷ rs) f = elim (dec_lt (pivot r) c) [
    | yes l ↦ rw (cut_below c r f.0 l, lt-ltb (pivot r) c l) (omega (arith, length_kept rs f.1))
    | no l ↦ rw (cut_above c r (omega arith), le-ltb (pivot r) c (omega arith)) (omega (arith, length_kept rs f.1))
  ]

-- the pivots of the first rows
pub pivots_taken : (ps : List ℕ) (t : List Row) (k : ℕ) → k ≤ length ps → k ≤ length t → Pivots ps t k → map pivot (take k t) ≡ take k ps
pivots_taken ps t zero h l p = refl
pivots_taken [] t (suc k) h l p = absurd (omega arith)
pivots_taken (x ∷ ps) [] (suc k) h l p = absurd (omega arith)
pivots_taken (x ∷ ps) (r ∷ t) (suc k) h l p =
    ap₂ {C = List ℕ} (λ y ys. y ∷ ys) (sym (p 0 (omega arith)).0) (pivots_taken ps t k (omega arith) (omega arith) (λ j q. p (suc j) (omega arith)))
