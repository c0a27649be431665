-- Rows made into numbers.
--   number_bound   a row of n columns makes a number of n bits
--   bits_number    whose bits are the row
--   number_bits    the bits of a number make it
--   row_word       64 columns of a row make its number
--   number_padded  zeros behind a row change no number
--   length_pack    m numbers
--   pack_at        number k of a row is made of 64 of its columns
--   unpack_pack    the numbers of a row hold the row
use mathlib.Core.Path.{◌≡◌, refl, sym, ap, ap₂, ◌∙◌}
use mathlib.Core.Bool.{true, false}
use mathlib.Core.List.{List, [], ◌∷◌, ◌++◌}
use Prim.Native.Nat.{ℕ, zero, suc, ◌+◌, ◌*◌, ◌/◌, ◌%◌, ◌^◌, ◌≤◌, ◌<◌}
use native.Mathlib.Decide.{dec_lt}
use native.Mathlib.Nat.{pow-suc}
use native.Mathlib.Omega.{arith}
use lib.ListN.{length, get_or, take, drop, length-drop, take-append-drop}
use lib.Seq.{length-take-le, take-nil, drop-nil, take_at, drop-append-add, drop-drop}
use Rattle.gf2.specs.Vector.{Row, digit}
use Rattle.gf2.specs.Cut.{padded}
use Rattle.packed.specs.Packed.{odd, bits_of, columns, unpack, number, pack}
use Rattle.packed.proofs.Bitwise.{length_bits}

-- a row of n columns makes a number of n bits
pub number_bound : (v : Row) → number v < 2 ^ length v
unfolding number
number_bound [] = omega arith
number_bound (true ∷ v) = omega (arith, number_bound v, pow-suc 2 (length v))
number_bound (false ∷ v) = omega (arith, number_bound v, pow-suc 2 (length v))

-- whose bits are the row
pub bits_number : (v : Row) → bits_of (length v) (number v) ≡ v
unfolding number bits_of
bits_number [] = refl
bits_number (true ∷ v) =
    let low : (number v * 2 + 1) % 2 ≡ 1 = omega arith in
    let high : (number v * 2 + 1) / 2 ≡ number v = omega arith in
    rw (low, high) (ap (λ w. true ∷ w) (bits_number v))
bits_number (false ∷ v) =
    let low : (number v * 2 + 0) % 2 ≡ 0 = omega arith in
    let high : (number v * 2 + 0) / 2 ≡ number v = omega arith in
    rw (low, high) (ap (λ w. false ∷ w) (bits_number v))

-- a bit above a number
two_digits : (a : ℕ) → a / 2 * 2 + digit (odd a) ≡ a
two_digits a = elim (dec_lt (a % 2) 1) [
  | yes l ↦ let e : a % 2 ≡ 0 = omega arith in rw e (omega arith)
  | no l ↦ let e : a % 2 ≡ 1 = omega arith in rw e (omega arith)
]

-- the bits of a number make it
pub number_bits : (n a : ℕ) → a < 2 ^ n → number (bits_of n a) ≡ a
unfolding number bits_of
number_bits zero a l = omega arith
number_bits (suc n) a l =
    let later : number (bits_of n (a / 2)) ≡ a / 2 = number_bits n (a / 2) (omega (arith, pow-suc 2 n)) in
    ap (λ m. m * 2 + digit (odd a)) later ∙ two_digits a

-- 64 columns of n numbers make a number
columns_word : (n : ℕ) (u : ℕ → ℕ) (k : ℕ) → k < n → u k < 2 ^ 64 → number (take 64 (drop (k * 64) (columns n u))) ≡ u k
unfolding columns
columns_word zero u k h b = absurd (omega arith)
columns_word (suc n) u zero h b =
    ap number (take_at (bits_of 64 (u 0)) (columns n (λ j. u (suc j))) 64 (length_bits 64 (u 0))) ∙ number_bits 64 (u 0) b
columns_word (suc n) u (suc k) h b =
    let e : suc k * 64 ≡ length (bits_of 64 (u 0)) + k * 64 = rw length_bits (omega arith) in
    let rest : Row = columns n (λ j. u (suc j)) in
    ap (λ i. number (take 64 (drop i (bits_of 64 (u 0) ++ rest)))) e
    ∙ ap (λ v. number (take 64 v)) (drop-append-add (bits_of 64 (u 0)) rest (k * 64))
    ∙ columns_word n (λ j. u (suc j)) k (omega arith) b

-- 64 columns of a row make its number
pub row_word : (u : List ℕ) (k : ℕ) → k < 8 → get_or u k 0 < 2 ^ 64
    → number (take 64 (drop (k * 64) (unpack u))) ≡ get_or u k 0
row_word u k = columns_word 8 (λ j. get_or u j 0) k

-- zeros behind a row do not change the number of its first columns
front_padded : (w m : ℕ) (v : Row) → w ≤ m → number (take w (padded m v)) ≡ number (take w v)
unfolding number padded
front_padded zero m v l = refl
front_padded (suc w) zero v l = absurd (omega arith)
front_padded (suc w) (suc m) [] l =
    let later : number (take w (padded m [])) ≡ 0 = front_padded w m [] (omega arith) ∙ ap number (take-nil w) in
    ap (λ x. x * 2 + 0) later
front_padded (suc w) (suc m) (x ∷ v) l = ap (λ y. y * 2 + digit x) (front_padded w m v (omega arith))

-- zeros behind a row change no number of its columns
pub number_padded : (w j m : ℕ) (v : Row) → j + w ≤ m → number (take w (drop j (padded m v))) ≡ number (take w (drop j v))
unfolding padded
number_padded w zero m v l = front_padded w m v (omega arith)
number_padded w (suc j) zero v l = absurd (omega arith)
number_padded w (suc j) (suc m) [] l = number_padded w j m [] (omega arith) ∙ ap (λ v. number (take w v)) (drop-nil j)
number_padded w (suc j) (suc m) (x ∷ v) l = number_padded w j m v (omega arith)

-- a row is made into m numbers
pub length_pack : (m : ℕ) (v : Row) → length (pack m v) ≡ m
unfolding pack
length_pack zero v = refl
length_pack (suc m) v = ap suc (length_pack m (drop 64 v))

-- number k of a row is made of 64 of its columns
pub pack_at : (m : ℕ) (v : Row) (k : ℕ) → k < m → get_or (pack m v) k 0 ≡ number (take 64 (drop (k * 64) v))
unfolding pack
pack_at zero v k h = absurd (omega arith)
pack_at (suc m) v zero h = refl
pack_at (suc m) v (suc k) h =
    let e : 64 + k * 64 ≡ suc k * 64 = omega arith in
    pack_at m (drop 64 v) k (omega arith) ∙ ap (λ w. number (take 64 w)) (drop-drop (k * 64) 64 v ∙ ap (λ n. drop n v) e)

-- the numbers of a row hold the row
pub unpack_pack : (m : ℕ) (v : Row) → length v ≡ m * 64 → columns m (λ k. get_or (pack m v) k 0) ≡ v
unfolding pack columns
unpack_pack zero [] l = refl
unpack_pack zero (x ∷ v) l = absurd (omega arith)
unpack_pack (suc m) v l =
    let first : length (take 64 v) ≡ 64 = length-take-le 64 v (omega arith) in
    let rest : length (drop 64 v) ≡ m * 64 = rw length-drop (omega arith) in
    ap₂ {C = Row} (λ (p q : Row). p ++ q) (ap (λ n. bits_of n (number (take 64 v))) (sym first) ∙ bits_number (take 64 v)) (unpack_pack m (drop 64 v) rest)
    ∙ take-append-drop 64 v
