-- Operations on numbers that work bit by bit, as operations on rows.
--   length_bits      n bits are a row of n columns
--   Bitwise op b f   op joins the bits of two numbers by b, and f the entries of two rows
--   xor_bitwise      exclusive or is the sum of rows
--   and_bitwise      conjunction is the common ones of rows
--   first_joined     the first of the numbers of two rows are joined
--   columns_joined   where each number of a row joins the numbers of two rows at its place, the row joins the rows
use mathlib.Core.Path.{◌≡◌, refl, sym, ap, ap₂, ◌∙◌}
use mathlib.Core.Bool.{Bool, xor, ◌&&◌}
use mathlib.Core.List.{[], ◌∷◌, ◌++◌}
use Prim.Native.Nat.{ℕ, zero, suc, ◌/◌, ◌%◌, ◌<◌}
use native.Mathlib.Nat.{mod-lt, zero-lt-suc}
use native.Mathlib.Omega.{arith}
use lib.Bits.{bit_xor, bit_and, xor_mod, xor_shr, and_mod, and_shr}
use lib.Dec.{eqb}
use lib.ListN.{length}
use Rattle.gf2.specs.Vector.{Row, add}
use Rattle.gf2.specs.Cut.{common}
use Rattle.packed.specs.Packed.{bits_of, columns}

-- n bits are a row of n columns
pub length_bits : (n a : ℕ) → length (bits_of n a) ≡ n
unfolding bits_of
length_bits zero a = refl
length_bits (suc n) a = ap suc (length_bits n (a / 2))

-- op joins the bits of two numbers by b, and f the entries of two rows
pub record Bitwise (op : ℕ → ℕ → ℕ) (b : Bool → Bool → Bool) (f : Row → Row → Row) : Type 0 where
  pub digit : (x y : ℕ) → x < 2 → y < 2 → eqb (op x y) 1 ≡ b (eqb x 1) (eqb y 1)
  pub low : (x y : ℕ) → op x y % 2 ≡ op (x % 2) (y % 2)
  pub high : (x y : ℕ) → op x y / 2 ≡ op (x / 2) (y / 2)
  pub none : f [] [] ≡ []
  pub next : (x y : Bool) (v w : Row) → f (x ∷ v) (y ∷ w) ≡ b x y ∷ f v w

-- the sum of two bits as digits
digit_xor : (x y : ℕ) → x < 2 → y < 2 → eqb (bit_xor x y) 1 ≡ xor (eqb x 1) (eqb y 1)
unfolding xor
digit_xor zero zero h k = refl
digit_xor zero (suc zero) h k = refl
digit_xor zero (suc (suc y)) h k = absurd (omega arith)
digit_xor (suc zero) zero h k = refl
digit_xor (suc zero) (suc zero) h k = refl
digit_xor (suc zero) (suc (suc y)) h k = absurd (omega arith)
digit_xor (suc (suc x)) y h k = absurd (omega arith)

-- the product of two bits as digits
digit_and : (x y : ℕ) → x < 2 → y < 2 → eqb (bit_and x y) 1 ≡ (eqb x 1 && eqb y 1)
digit_and zero y h k = refl
digit_and (suc zero) zero h k = refl
digit_and (suc zero) (suc zero) h k = refl
digit_and (suc zero) (suc (suc y)) h k = absurd (omega arith)
digit_and (suc (suc x)) y h k = absurd (omega arith)

-- exclusive or is the sum of rows
pub xor_bitwise : Bitwise bit_xor xor add
unfolding add
xor_bitwise = record {
  digit = digit_xor;
  low = λ x y. xor_mod x y 1;
  high = λ x y. xor_shr x y 1;
  none = refl;
  next = λ x y v w. refl;
}

-- conjunction is the common ones of rows
pub and_bitwise : Bitwise bit_and (λ x y. x && y) common
unfolding common
and_bitwise = record {
  digit = digit_and;
  low = λ x y. and_mod x y 1;
  high = λ x y. and_shr x y 1;
  none = refl;
  next = λ x y v w. refl;
}

module _ {op : ℕ → ℕ → ℕ} {b : Bool → Bool → Bool} {f : Row → Row → Row} (bitwise : Bitwise op b f) where
  -- the bits of two numbers are joined
  bits_op : (n x y : ℕ) → bits_of n (op x y) ≡ f (bits_of n x) (bits_of n y)
  unfolding bits_of
  bits_op zero x y = sym bitwise.none
  bits_op (suc n) x y =
      ap₂ {C = Row} (λ z v. z ∷ v)
      (ap (λ z. eqb z 1) (bitwise.low x y) ∙ bitwise.digit (x % 2) (y % 2) (mod-lt x (zero-lt-suc 1)) (mod-lt y (zero-lt-suc 1)))
      (ap (bits_of n) (bitwise.high x y) ∙ bits_op n (x / 2) (y / 2))
      ∙ sym (bitwise.next _ _ (bits_of n (x / 2)) (bits_of n (y / 2)))

  -- rows in two parts are joined part by part
  op_append : (v w v' w' : Row) → length v ≡ length w → f (v ++ v') (w ++ w') ≡ f v w ++ f v' w'
  op_append [] [] v' w' e = sym (ap (λ u. u ++ f v' w') bitwise.none)
  op_append [] (y ∷ w) v' w' e = absurd (omega arith)
  op_append (x ∷ v) [] v' w' e = absurd (omega arith)
  op_append (x ∷ v) (y ∷ w) v' w' e =
      bitwise.next x y (v ++ v') (w ++ w') ∙ ap (λ u. b x y ∷ u) (op_append v w v' w' (omega arith))
      ∙ sym (ap (λ u. u ++ f v' w') (bitwise.next x y v w))

  -- the first of the numbers of two rows are joined
  pub first_joined : (x y : ℕ) (v w : Row) → f (bits_of 64 x ++ v) (bits_of 64 y ++ w) ≡ bits_of 64 (op x y) ++ f v w
  first_joined x y v w =
      op_append (bits_of 64 x) (bits_of 64 y) v w (length_bits 64 x ∙ sym (length_bits 64 y)) ∙ ap (λ z. z ++ f v w) (sym (bits_op 64 x y))

  -- where each number of a row joins the numbers of two rows at its place, the row joins the rows
  pub columns_joined : (n : ℕ) (u v w : ℕ → ℕ) → ((k : ℕ) → k < n → w k ≡ op (u k) (v k))
      → columns n w ≡ f (columns n u) (columns n v)
  unfolding columns
  columns_joined zero u v w e = sym bitwise.none
  columns_joined (suc n) u v w e =
      ap₂ {C = Row} (λ p q. p ++ q) (ap (bits_of 64) (e 0 (omega arith))) (columns_joined n (λ k. u (suc k)) (λ k. v (suc k)) (λ k. w (suc k)) (λ k h. e (suc k) (omega arith)))
      ∙ sym (first_joined (u 0) (v 0) (columns n (λ k. u (suc k))) (columns n (λ k. v (suc k))))
