-- Parities and changed columns of packed rows, number by number.
--   dot_columns   the parity of two rows is that of the count of their numbers' common ones
--   flip_column   a column of a row in two parts is changed in one of them
--   flip_bits     a bit of a number is changed
use mathlib.Core.Path.{◌≡◌, refl, sym, ap, ap₂, ◌∙◌}
use mathlib.Core.Bool.{true, false, xor, ◌&&◌}
use mathlib.Core.List.{List, [], ◌∷◌, ◌++◌}
use Prim.Native.Nat.{ℕ, zero, suc, ◌+◌, ◌/◌, ◌%◌, ◌^◌, ◌<◌}
use native.Mathlib.Nat.{mod-lt, zero-lt-suc, zero-add, suc-add, pow-suc, div-lt_iff_lt-mul, mul-mod_left, mul-div_cancel}
use native.Mathlib.Omega.{arith}
use lib.Bits.{bit_xor, bit_and, xor_zero_r, and_le_r}
use lib.Count.{ones, ones_step}
use lib.Dec.{eqb}
use lib.ListN.{length, get_or}
use Rattle.std.proofs.lemmas.List.Sums.{sum_by-cons}
use Rattle.std.specs.List.{sum_by, zip}
use Rattle.gf2.specs.Vector.{Row, add, dot, unit}
use Rattle.gf2.specs.Solve.{flip}
use Rattle.gf2.proofs.Bits.{xor_false, false_xor, xor_self, xor_assoc}
use Rattle.gf2.proofs.Dot.{add_nil}
use Rattle.packed.specs.Packed.{odd, bits_of, columns}
use Rattle.packed.proofs.Bitwise.{length_bits, xor_bitwise, and_bitwise}
use Rattle.packed.proofs.Words.{Column}

-- a sum is odd just if exactly one of its terms is
odd_add : (a b : ℕ) → odd (a + b) ≡ xor (odd a) (odd b)
odd_add a b = go (a % 2) (b % 2) refl refl
  where
    go : (x y : ℕ) → a % 2 ≡ x → b % 2 ≡ y → odd (a + b) ≡ xor (eqb x 1) (eqb y 1)
    go zero zero e f = let s : (a + b) % 2 ≡ 0 = omega arith in rw (s, xor_self)
    go zero (suc zero) e f = let s : (a + b) % 2 ≡ 1 = omega arith in rw (s, false_xor)
    go zero (suc (suc y)) e f = absurd (omega arith)
    go (suc zero) zero e f = let s : (a + b) % 2 ≡ 1 = omega arith in rw (s, xor_false)
    go (suc zero) (suc zero) e f = let s : (a + b) % 2 ≡ 0 = omega arith in rw (s, xor_self)
    go (suc zero) (suc (suc y)) e f = absurd (omega arith)
    go (suc (suc x)) y e f = absurd (omega arith)

-- no bit of zero is one
ones_none : (a : ℕ) → a < 1 → odd (ones a) ≡ false
unfolding ones
ones_none zero h = refl
ones_none (suc a) h = absurd (omega arith)

-- the parity of two numbers' bits is that of the count of their common ones
dot_bits : (n x y : ℕ) → bit_and x y < 2 ^ n → dot (bits_of n x) (bits_of n y) ≡ odd (ones (bit_and x y))
unfolding dot bits_of
dot_bits zero x y h = sym (ones_none (bit_and x y) h)
dot_bits (suc n) x y h =
    let z : ℕ = bit_and x y in
    let less : bit_and (x / 2) (y / 2) < 2 ^ n = rw (← and_bitwise.high x y) ((div-lt_iff_lt-mul (zero-lt-suc 1)).1 (rw pow-suc at h)) in
    let low : odd (z % 2) ≡ (odd x && odd y) =
    (let e : z % 2 % 2 ≡ z % 2 = omega arith in ap (λ w. eqb w 1) (e ∙ and_bitwise.low x y))
    ∙ and_bitwise.digit (x % 2) (y % 2) (mod-lt x (zero-lt-suc 1)) (mod-lt y (zero-lt-suc 1)) in
    sym (ap odd (ones_step z) ∙ odd_add (z % 2) (ones (z / 2))
    ∙ ap₂ xor low (ap (λ w. odd (ones w)) (and_bitwise.high x y) ∙ sym (dot_bits n (x / 2) (y / 2) less)))

-- the parity of rows in two parts is the sum of their parities
dot_append : (v w v' w' : Row) → length v ≡ length w → dot (v ++ v') (w ++ w') ≡ xor (dot v w) (dot v' w')
unfolding dot
dot_append [] [] v' w' e = sym (false_xor (dot v' w'))
dot_append [] (y ∷ w) v' w' e = absurd (omega arith)
dot_append (x ∷ v) [] v' w' e = absurd (omega arith)
dot_append (x ∷ v) (y ∷ w) v' w' e = ap (xor (x && y)) (dot_append v w v' w' (omega arith)) ∙ sym (xor_assoc (x && y) (dot v w) (dot v' w'))

-- the parity of two rows is that of the count of their numbers' common ones
pub dot_columns : (n : ℕ) (u v : List ℕ) → length u ≡ n → length v ≡ n → ((k : ℕ) → get_or v k 0 < 2 ^ 64)
    → odd (sum_by (λ p. ones (bit_and p.0 p.1)) (zip u v)) ≡ dot (columns n (λ k. get_or u k 0)) (columns n (λ k. get_or v k 0))
unfolding columns dot
dot_columns zero [] [] l m b = refl
dot_columns zero [] (y ∷ v) l m b = absurd (omega arith)
dot_columns zero (x ∷ u) v l m b = absurd (omega arith)
dot_columns (suc n) [] v l m b = absurd (omega arith)
dot_columns (suc n) (x ∷ u) [] l m b = absurd (omega arith)
dot_columns (suc n) (x ∷ u) (y ∷ v) l m b =
    ap odd (sum_by-cons (λ p. ones (bit_and p.0 p.1)) (x, y) (zip u v))
    ∙ odd_add (ones (bit_and x y)) (sum_by (λ p. ones (bit_and p.0 p.1)) (zip u v))
    ∙ ap₂ xor (sym (dot_bits 64 x y (omega (arith, b 0, and_le_r x y)))) (dot_columns n u v (omega arith) (omega arith) (λ k. b (suc k)))
    ∙ sym (dot_append (bits_of 64 x) (bits_of 64 y) _ _ (length_bits 64 x ∙ sym (length_bits 64 y)))

-- a bit of a number is changed
bits_flip : (n a i : ℕ) → i < n → bits_of n (bit_xor a (2 ^ i)) ≡ add (bits_of n a) (unit i)
unfolding bits_of add unit
bits_flip zero a i h = absurd (omega arith)
bits_flip (suc n) a zero h =
    ap₂ {C = Row} (λ x v. x ∷ v)
    (ap (λ x. eqb x 1) (xor_bitwise.low a 1) ∙ xor_bitwise.digit (a % 2) 1 (mod-lt a (zero-lt-suc 1)) (omega arith))
    (ap (bits_of n) (xor_bitwise.high a 1 ∙ xor_zero_r (a / 2)) ∙ sym (add_nil (bits_of n (a / 2))))
bits_flip (suc n) a (suc i) h =
    let even : 2 ^ suc i % 2 ≡ 0 = rw pow-suc (mul-mod_left (2 ^ i) 2) in
    let half : 2 ^ suc i / 2 ≡ 2 ^ i = rw pow-suc (mul-div_cancel (2 ^ i) (zero-lt-suc 1)) in
    ap₂ {C = Row} (λ x v. x ∷ v)
    (ap (λ x. eqb x 1) (xor_bitwise.low a (2 ^ suc i) ∙ ap (bit_xor (a % 2)) even ∙ xor_zero_r (a % 2)) ∙ sym (xor_false (odd a)))
    (ap (bits_of n) (xor_bitwise.high a (2 ^ suc i) ∙ ap (bit_xor (a / 2)) half) ∙ bits_flip n (a / 2) i (omega arith))

-- a column of the first part of a row is changed
flip_left : (v w : Row) (c : ℕ) → c < length v → add (v ++ w) (unit c) ≡ add v (unit c) ++ w
unfolding add unit
flip_left [] w c h = absurd (omega arith)
flip_left (x ∷ v) w zero h = ap (λ u. xor x true ∷ u) (add_nil (v ++ w) ∙ sym (ap (λ u. u ++ w) (add_nil v)))
flip_left (x ∷ v) w (suc c) h = ap (λ u. xor x false ∷ u) (flip_left v w c (omega arith))

-- a column past the first part is changed in the second
flip_right : (v w : Row) (c : ℕ) → add (v ++ w) (unit (length v + c)) ≡ v ++ add w (unit c)
unfolding add unit
flip_right [] w c = ap (λ k. add w (unit k)) (zero-add c)
flip_right (x ∷ v) w c =
    ap (λ k. add (x ∷ (v ++ w)) (unit k)) (suc-add (length v) c) ∙ ap₂ {C = Row} (λ b u. b ∷ u) (xor_false x) (flip_right v w c)

-- a column of a row in two parts is changed in one of them
pub flip_column : Column (flip true)
unfolding flip
flip_column = record { left = flip_left; right = flip_right }

-- a bit of a number is changed
pub flip_bits : (a i : ℕ) → i < 64 → bits_of 64 (bit_xor a (2 ^ i)) ≡ flip true (bits_of 64 a) i
unfolding flip
flip_bits a i h = bits_flip 64 a i h
