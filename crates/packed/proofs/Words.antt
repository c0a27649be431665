-- The row in eight numbers: reading a column, the first one, changing a column, zeros.
--   length_columns   each number holds 64 columns
--   length_unpack    a row has 512 columns
--   shifted          a one shifted by less than 64
--   entry_listed     an entry of the numbers of a list is a bit of one of them
--   entry_word       the same of a row
--   pivot_columns    the first number with a one holds the first one of the row
--   Column T         what changes a column changes it in one of two parts of a row
--   unpack_changed   a number is stored that differs in one bit: a column of the row is changed
--   one_column       putting in a one is such a change
--   bits_or          a one put into a number
--   bits_zero        the bits of zero
--   unpack_zero      eight numbers that are zero are a row of zeros
use mathlib.Core.Path.{◌≡◌, refl, sym, ap, ap₂, ◌∙◌}
use mathlib.Core.Logic.{◌≢◌}
use mathlib.Core.Bool.{Bool, true, false}
use mathlib.Core.List.{List, [], ◌∷◌, ◌++◌}
use Prim.Native.Nat.{ℕ, zero, suc, ◌+◌, ◌*◌, ◌/◌, ◌%◌, ◌^◌, ◌<◌}
use native.Mathlib.Nat.{suc-ne-zero, mod-lt, zero-lt-suc, div-one, zero-div, zero-add, suc-add, one-mul, mod-eq_of_lt, pow-suc, div-lt_iff_lt-mul, mul-mod_left, mul-div_cancel}
use native.Mathlib.Numerals.{one-add}
use native.Mathlib.Decide.{dec_lt}
use native.Mathlib.Omega.{arith}
use lib.Bits.{bit_or, or_mod, or_shr, or_zero_r}
use lib.Count.{count_trailing_zeros, under}
use lib.Dec.{eqb}
use lib.ListN.{length, get_or, set, replicate, length-append, get_or-append, get_or-eq_default, get_or-replicate, replicate-append-replicate}
use lib.Seq.{get_or-append-add, set-append_left, get_or-set_same, get_or-set_other}
use lib.Pow.{pow-lt, shr-shr}
use Rattle.gf2.specs.Vector.{Row, entry}
use Rattle.gf2.specs.Elimination.{pivot}
use Rattle.packed.specs.Packed.{odd, bits_of, columns, unpack}
use Rattle.packed.proofs.Bitwise.{length_bits}

-- a one shifted by less than 64
pub shifted : (c : ℕ) → c < 64 → 1 * 2 ^ c % 2 ^ 64 ≡ 2 ^ c
shifted c h = ap (λ x. x % 2 ^ 64) (one-mul (2 ^ c)) ∙ mod-eq_of_lt (pow-lt h)

-- each number holds 64 columns
pub length_columns : (n : ℕ) (u : ℕ → ℕ) → length (columns n u) ≡ n * 64
unfolding columns
length_columns zero u = refl
length_columns (suc n) u =
    length-append (bits_of 64 (u 0)) (columns n (λ k. u (suc k))) ∙ ap₂ (λ i j. i + j) (length_bits 64 (u 0)) (length_columns n (λ k. u (suc k))) ∙ omega arith

-- a row has 512 columns
pub length_unpack : (u : List ℕ) → length (unpack u) ≡ 512
length_unpack u = length_columns 8 (λ k. get_or u k 0)

-- the columns of the same numbers
columns_same : (n : ℕ) (u v : ℕ → ℕ) → ((k : ℕ) → k < n → u k ≡ v k) → columns n u ≡ columns n v
unfolding columns
columns_same zero u v e = refl
columns_same (suc n) u v e =
    ap₂ {C = Row} (λ p q. p ++ q) (ap (bits_of 64) (e 0 (omega arith))) (columns_same n (λ k. u (suc k)) (λ k. v (suc k)) (λ k h. e (suc k) (omega arith)))

-- a place past the first number
past_first : (w : ℕ) (q r : ℕ) → suc q * 64 + r ≡ length (bits_of 64 w) + (q * 64 + r)
past_first w q r = rw length_bits (omega arith)

-- bit i of a number
entry_bits : (n a i : ℕ) → i < n → entry (bits_of n a) i ≡ odd (a / 2 ^ i)
unfolding bits_of
entry_bits zero a i h = absurd (omega arith)
entry_bits (suc n) a zero h = ap odd (sym (div-one a))
entry_bits (suc n) a (suc i) h = entry_bits n (a / 2) i (omega arith) ∙ ap odd (shr-shr a 1 i ∙ ap (λ k. a / 2 ^ k) (one-add i))

-- a column is a bit of a number
entry_columns : (n : ℕ) (u : ℕ → ℕ) (q r : ℕ) → q < n → r < 64 → entry (columns n u) (q * 64 + r) ≡ odd (u q / 2 ^ r)
unfolding columns
entry_columns zero u q r g h = absurd (omega arith)
entry_columns (suc n) u zero r g h =
    ap (entry (bits_of 64 (u 0) ++ columns n (λ k. u (suc k)))) (zero-add r)
    ∙ get_or-append (bits_of 64 (u 0)) (columns n (λ k. u (suc k))) false r (rw length_bits h)
    ∙ entry_bits 64 (u 0) r h
entry_columns (suc n) u (suc q) r g h =
    ap (entry (bits_of 64 (u 0) ++ columns n (λ k. u (suc k)))) (past_first (u 0) q r)
    ∙ get_or-append-add (bits_of 64 (u 0)) (columns n (λ k. u (suc k))) (q * 64 + r) false ∙ entry_columns n (λ k. u (suc k)) q r (omega arith) h

-- an entry of the numbers of a list is a bit of one of them
pub entry_listed : (u : List ℕ) (c : ℕ) → entry (columns (length u) (λ k. get_or u k 0)) c ≡ odd (get_or u (c / 64) 0 / 2 ^ (c % 64))
entry_listed u c =
    let v = columns (length u) (λ k. get_or u k 0) in
    elim (dec_lt (c / 64) (length u)) [
      | yes h ↦
          let e : c ≡ c / 64 * 64 + c % 64 = omega arith in
          ap (entry v) e ∙ entry_columns (length u) (λ k. get_or u k 0) (c / 64) (c % 64) h (omega arith)
      | no h ↦
          get_or-eq_default v false (omega (arith, length_columns (length u) (λ k. get_or u k 0)))
          ∙ sym (ap (λ w. odd (w / 2 ^ (c % 64))) (get_or-eq_default u 0 (omega arith)) ∙ ap odd (zero-div (2 ^ (c % 64))))
    ]

-- the same of a row
pub entry_word : (u : List ℕ) (c : ℕ) → length u ≡ 8 → entry (unpack u) c ≡ odd (get_or u (c / 64) 0 / 2 ^ (c % 64))
entry_word u c l = ap (λ n. entry (columns n (λ k. get_or u k 0)) c) (sym l) ∙ entry_listed u c

-- a number with a one holds the first one of the row that it begins
pivot_word : (n a : ℕ) (rest : Row) → 0 < a → a < 2 ^ n → pivot (bits_of n a ++ rest) ≡ count_trailing_zeros n a
unfolding bits_of pivot count_trailing_zeros
pivot_word zero a rest p h = absurd (omega arith)
pivot_word (suc n) a rest p h = go (a % 2) refl (λ e. pivot_word n (a / 2) rest (omega arith) ((div-lt_iff_lt-mul (zero-lt-suc 1)).1 (rw pow-suc at h)))
  where
    go : (r : ℕ) → a % 2 ≡ r → (a % 2 ≡ 0 → pivot (bits_of n (a / 2) ++ rest) ≡ count_trailing_zeros n (a / 2))
        → pivot (eqb r 1 ∷ (bits_of n (a / 2) ++ rest)) ≡ under r (count_trailing_zeros n (a / 2))
    go zero e ih = ap suc (ih e)
    go (suc zero) e ih = refl
    go (suc (suc r)) e ih = absurd (omega arith)

-- a number that is zero is passed
pivot_zeros : (n : ℕ) (rest : Row) → pivot (bits_of n 0 ++ rest) ≡ n + pivot rest
unfolding bits_of pivot
pivot_zeros zero rest = sym (zero-add (pivot rest))
pivot_zeros (suc n) rest = ap suc (pivot_zeros n rest) ∙ sym (suc-add n (pivot rest))

-- the first number with a one holds the first one of the row
pub pivot_columns : (n : ℕ) (u : ℕ → ℕ) (k : ℕ) → k < n → ((j : ℕ) → j < k → u j ≡ 0) → 0 < u k → u k < 2 ^ 64
    → k * 64 + count_trailing_zeros 64 (u k) ≡ pivot (columns n u)
unfolding columns
pivot_columns zero u k h z p b = absurd (omega arith)
pivot_columns (suc n) u zero h z p b = zero-add _ ∙ sym (pivot_word 64 (u 0) (columns n (λ j. u (suc j))) p b)
pivot_columns (suc n) u (suc k) h z p b =
    let rest : Row = columns n (λ j. u (suc j)) in
    let later : k * 64 + count_trailing_zeros 64 (u (suc k)) ≡ pivot rest = pivot_columns n (λ j. u (suc j)) k (omega arith) (λ j l. z (suc j) (omega arith)) p b in
    omega (arith, later, ap (λ w. pivot (bits_of 64 w ++ rest)) (z 0 (omega arith)), pivot_zeros 64 rest)

-- what changes a column changes it in one of two parts of a row
pub record Column (T : Row → ℕ → Row) : Type 0 where
  pub left : (v w : Row) (c : ℕ) → c < length v → T (v ++ w) c ≡ T v c ++ w
  pub right : (v w : Row) (c : ℕ) → T (v ++ w) (length v + c) ≡ v ++ T w c

module _ {T : Row → ℕ → Row} (column : Column T) where
  -- one of the numbers is changed as a column of its bits is
  columns_changed : (n : ℕ) (u v : ℕ → ℕ) (q r : ℕ) → q < n → r < 64 → bits_of 64 (v q) ≡ T (bits_of 64 (u q)) r
      → ((k : ℕ) → k ≢ q → v k ≡ u k)
      → columns n v ≡ T (columns n u) (q * 64 + r)
  unfolding columns
  columns_changed zero u v q r g h e s = absurd (omega arith)
  columns_changed (suc n) u v zero r g h e s =
      ap₂ {C = Row} (λ x y. x ++ y) e (columns_same n (λ k. v (suc k)) (λ k. u (suc k)) (λ k l. s (suc k) (λ z. suc-ne-zero k z)))
      ∙ sym (ap (T (bits_of 64 (u 0) ++ columns n (λ k. u (suc k)))) (zero-add r) ∙ column.left (bits_of 64 (u 0)) (columns n (λ k. u (suc k))) r (rw length_bits h))
  columns_changed (suc n) u v (suc q) r g h e s =
      let rest : Row = columns n (λ k. u (suc k)) in
      ap₂ {C = Row} (λ x y. bits_of 64 x ++ y) (s 0 (λ z. absurd (omega arith)))
      (columns_changed n (λ k. u (suc k)) (λ k. v (suc k)) q r (omega arith) h e (λ k d. s (suc k) (λ z. d (omega arith))))
      ∙ sym (ap (T (bits_of 64 (u 0) ++ rest)) (past_first (u 0) q r) ∙ column.right (bits_of 64 (u 0)) rest (q * 64 + r))

  -- a number is stored that differs in one bit: a column of the row is changed
  pub unpack_changed : (u : List ℕ) (x c : ℕ) → length u ≡ 8 → c < 512
      → bits_of 64 x ≡ T (bits_of 64 (get_or u (c / 64) 0)) (c % 64) → unpack (set u (c / 64) x) ≡ T (unpack u) c
  unpack_changed u x c l h e =
      let place : c / 64 * 64 + c % 64 ≡ c = omega arith in
      columns_changed 8 (λ k. get_or u k 0) (λ k. get_or (set u (c / 64) x) k 0) (c / 64) (c % 64) (omega arith) (omega arith)
      (ap (bits_of 64) (get_or-set_same u (c / 64) x 0 (omega arith)) ∙ e) (λ k d. get_or-set_other u (c / 64) k x 0 d)
      ∙ ap (T (unpack u)) place

-- a digit with a one put in
or_one : (x : ℕ) → x < 2 → eqb (bit_or x 1) 1 ≡ true
or_one zero h = refl
or_one (suc zero) h = refl
or_one (suc (suc x)) h = absurd (omega arith)

-- a one put into a number
pub bits_or : (n a i : ℕ) → i < n → bits_of n (bit_or a (2 ^ i)) ≡ set (bits_of n a) i true
unfolding bits_of
bits_or zero a i h = absurd (omega arith)
bits_or (suc n) a zero h =
    ap₂ {C = Row} (λ x v. x ∷ v) (ap (λ x. eqb x 1) (or_mod a 1 1) ∙ or_one (a % 2) (mod-lt a (zero-lt-suc 1))) (ap (bits_of n) (or_shr a 1 1 ∙ or_zero_r (a / 2)))
bits_or (suc n) a (suc i) h =
    let even : 2 ^ suc i % 2 ≡ 0 = rw pow-suc (mul-mod_left (2 ^ i) 2) in
    let half : 2 ^ suc i / 2 ≡ 2 ^ i = rw pow-suc (mul-div_cancel (2 ^ i) (zero-lt-suc 1)) in
    ap₂ {C = Row} (λ x v. x ∷ v)
    (ap (λ x. eqb x 1) (or_mod a (2 ^ suc i) 1 ∙ ap (bit_or (a % 2)) even ∙ or_zero_r (a % 2)))
    (ap (bits_of n) (or_shr a (2 ^ suc i) 1 ∙ ap (bit_or (a / 2)) half) ∙ bits_or n (a / 2) i (omega arith))

-- a column past the first part is stored in the second
set_append_add : (v w : Row) (n : ℕ) (b : Bool) → set (v ++ w) (length v + n) b ≡ v ++ set w n b
set_append_add [] w n b = ap (λ k. set w k b) (zero-add n)
set_append_add (x ∷ v) w n b = ap (λ k. set (x ∷ (v ++ w)) k b) (suc-add (length v) n) ∙ ap {B = Row} (λ u. x ∷ u) (set_append_add v w n b)

-- putting in a one is such a change
pub one_column : Column (λ v c. set v c true)
one_column = record { left = λ v w c h. set-append_left v w c true h; right = λ v w c. set_append_add v w c true }

-- the bits of zero
pub bits_zero : (n : ℕ) → bits_of n 0 ≡ replicate n false
unfolding bits_of
bits_zero zero = refl
bits_zero (suc n) = ap {B = Row} (λ v. false ∷ v) (bits_zero n)

-- numbers that are zero are a row of zeros
zeros_columns : (n : ℕ) (u : ℕ → ℕ) → ((k : ℕ) → k < n → u k ≡ 0) → columns n u ≡ replicate (n * 64) false
unfolding columns
zeros_columns zero u z = refl
zeros_columns (suc n) u z =
    let e : 64 + n * 64 ≡ suc n * 64 = omega arith in
    ap₂ {C = Row} (λ p q. p ++ q) (ap (bits_of 64) (z 0 (omega arith)) ∙ bits_zero 64) (zeros_columns n (λ k. u (suc k)) (λ k h. z (suc k) (omega arith)))
    ∙ replicate-append-replicate 64 (n * 64) false ∙ ap (λ i. replicate i false) e

-- eight numbers that are zero are a row of zeros
pub unpack_zero : unpack (replicate 8 0) ≡ replicate 512 false
unpack_zero = zeros_columns 8 (λ k. get_or (replicate 8 0) k 0) (λ k h. get_or-replicate {A = ℕ} 8 k 0 0 h)
