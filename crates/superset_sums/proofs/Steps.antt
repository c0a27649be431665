-- The steps on eight numbers are steps on the row that they hold.
--   low_places         for each of six variables the places of 64 where it is 0
--   in_words          a step inside numbers, of one of these variables
--   between_words     a step between numbers, of one of the others
use mathlib.Core.Path.{◌≡◌, refl, sym, ap, ap₂, ◌∙◌}
use mathlib.Core.Bool.{Bool, true, false, xor, not, ◌&&◌, and-true, and-false, cond}
use mathlib.Core.List.{List, [], ◌∷◌, map}
use Prim.Native.Nat.{ℕ, ◌+◌, ◌-◌, ◌*◌, ◌/◌, ◌%◌, ◌^◌, ◌≤◌, ◌<◌}
use native.Mathlib.Decide.{dec_lt}
use native.Mathlib.Nat.{mod-lt, zero-lt-suc, zero-div}
use native.Mathlib.Omega.{arith}
use lib.Bits.{bit_and, bit_xor, and_shr, xor_shr, and_zero_l, xor_zero_l}
use lib.Dec.{eqb, ltb}
use lib.ListN.{length, get_or, length-map, get_or-map, get_or-eq_default}
use lib.Pow.{shr-shr, mod-mod-pow, field, pow-add}
use borrow.Author.Tests.{ltb-true, not-true}
use Rattle.cube.specs.NumberLists.{below, all_below}
use Rattle.cube.proofs.AllBelow.{all_says}
use Rattle.cube.proofs.Listed.{and_both}
use Rattle.cube.proofs.Masks.{length_from, value_at}
use Rattle.gf2.specs.Vector.{Row, entry}
use Rattle.packed.specs.Packed.{odd, unpack}
use Rattle.packed.proofs.Bitwise.{Bitwise, xor_bitwise, and_bitwise}
use Rattle.packed.proofs.Words.{entry_word}
use Rattle.superset_sums.specs.SupersetSums.{low_bit, Stepped, fold_of, partner_of}

-- bit j of a number
abbrev bit : ℕ → ℕ → Bool
bit x j = odd (x / 2 ^ j)

-- the bits of two numbers that are joined bit by bit
bit_joined : {op : ℕ → ℕ → ℕ} {b : Bool → Bool → Bool} {f : Row → Row → Row} → Bitwise op b f → ((x y j : ℕ) → op x y / 2 ^ j ≡ op (x / 2 ^ j) (y / 2 ^ j))
    → (x y j : ℕ) → bit (op x y) j ≡ b (bit x j) (bit y j)
bit_joined bitwise shift x y j =
    ap odd (shift x y j)
    ∙ ap (λ z. eqb z 1) (bitwise.low (x / 2 ^ j) (y / 2 ^ j))
    ∙ bitwise.digit (x / 2 ^ j % 2) (y / 2 ^ j % 2) (mod-lt (x / 2 ^ j) (zero-lt-suc 1)) (mod-lt (y / 2 ^ j) (zero-lt-suc 1))

-- of a sum
bit_xor_lem : (x y j : ℕ) → bit (bit_xor x y) j ≡ xor (bit x j) (bit y j)
bit_xor_lem = bit_joined xor_bitwise xor_shr

-- and of a conjunction
bit_and_lem : (x y j : ℕ) → bit (bit_and x y) j ≡ (bit x j && bit y j)
bit_and_lem = bit_joined and_bitwise and_shr

-- the bits of zero
bit_zero : (j : ℕ) → bit 0 j ≡ false
bit_zero j = rw (zero-div (2 ^ j))

-- the bits of a folded number
bit_fold : (s m x j : ℕ) → bit (fold_of s m x) j ≡ xor (bit x j) (bit x (s + j) && bit m j)
unfolding fold_of
bit_fold s m x j =
    bit_xor_lem x (bit_and (x / 2 ^ s) m) j
    ∙ ap (xor (bit x j)) (bit_and_lem (x / 2 ^ s) m j ∙ ap (λ z. z && bit m j) (ap odd (shr-shr x s j)))

-- no bit of zero is folded
fold_zero : (s m : ℕ) → fold_of s m 0 ≡ 0
unfolding fold_of
fold_zero s m = rw (zero-div (2 ^ s), and_zero_l m, xor_zero_l 0)

-- a column of eight numbers, where those that would follow are zero
column_of : (f : ℕ → ℕ) → ((i : ℕ) → 8 ≤ i → f i ≡ 0) → (p : ℕ) → entry (unpack (map f (below 8))) p ≡ bit (f (p / 64)) (p % 64)
column_of f past p = entry_word (map f (below 8)) p (length-map (below 8) f ∙ length_from 0 8) ∙ ap (λ z. bit z (p % 64)) (elim (dec_lt (p / 64) 8) [
  | yes l ↦ value_at f 8 (p / 64) 0 l
  | no l ↦ get_or-eq_default (map f (below 8)) 0 {n = p / 64} (omega (arith, length-map (below 8) f, length_from 0 8)) ∙ sym (past (p / 64) (omega arith))
])

-- a step's columns from the bits of the numbers
from_bits : (k : ℕ) (x : List ℕ) → length x ≡ 8 → (p : ℕ) (b : Bool) → b ≡ xor (bit (get_or x (p / 64) 0) (p % 64)) (low_bit k p && bit (get_or x ((p + 2 ^ k) / 64) 0) ((p + 2 ^ k) % 64))
    → b ≡ xor (entry (unpack x) p) (low_bit k p && entry (unpack x) (p + 2 ^ k))
from_bits k x l p b e = e ∙ ap₂ (λ y z. xor y (low_bit k p && z)) (sym (entry_word x p l)) (sym (entry_word x (p + 2 ^ k) l))

-- for each of six variables the places where it is 0
abbrev pub low_places : List ℕ
low_places =
    6148914691236517205
    ∷ 3689348814741910323
    ∷ 1085102592571150095
    ∷ 71777214294589695
    ∷ 281470681808895
    ∷ 4294967295
    ∷ []

-- one place of a mask: it has the places where the bit is 0, and from these the place with the bit is another of the 64
abbrev place_right : Bool → Bool → Bool → Bool
place_right true b near = b && near
place_right false b near = not b

-- place j of the mask m of variable k
abbrev mask_test : ℕ → ℕ → ℕ → Bool
mask_test k m j = place_right (low_bit k j) (bit m j) (ltb (2 ^ k + j) 64)

-- the masks, by computation
masks_test : all_below 6 (λ k. all_below 64 (mask_test k (get_or low_places k 0))) ≡ true
unfolding low_bit all_below
masks_test = refl

-- each place of each mask
masks_right : (k : ℕ) → k < 6 → (j : ℕ) → j < 64 → mask_test k (get_or low_places k 0) j ≡ true
masks_right k l = (all_says 64 (mask_test k (get_or low_places k 0))).0 ((all_says 6 (λ i. all_below 64 (mask_test i (get_or low_places i 0)))).0 masks_test k l)

-- one of the six lowest bits is that of the place in its number
low_place : (k p : ℕ) → k < 6 → low_bit k p ≡ low_bit k (p % 64)
unfolding low_bit
low_place k p l =
    let six : 6 ≡ 6 - k + k = omega arith in
    let more : 6 - k ≡ 5 - k + 1 = omega arith in
    sym (ap (λ i. eqb (p % 2 ^ i / 2 ^ k % 2) 0) six
    ∙ ap (λ z. eqb (z % 2) 0) (field p (6 - k) k)
    ∙ ap (λ i. eqb (p / 2 ^ k % 2 ^ i % 2) 0) more
    ∙ ap (λ z. eqb z 0) (mod-mod-pow (p / 2 ^ k) (5 - k) 1))

module _ (k : ℕ) (few : k < 6) (x : List ℕ) (long : length x ≡ 8) where
  -- the mask of the step
  abbrev mask : ℕ
  mask = get_or low_places k 0

  -- what becomes of a number
  abbrev folded : ℕ → ℕ
  folded = fold_of (2 ^ k) mask

  -- a step inside numbers
  pub in_words : Stepped k (entry (unpack x)) (entry (unpack (map folded x)))
  in_words p = from_bits k x long p _ (column ∙ bit_fold (2 ^ k) mask w j ∙ ap (xor (bit w j)) (go (low_bit k j) refl (masks_right k few j (omega arith))))
    where
      j : ℕ
      j = p % 64

      w : ℕ
      w = get_or x (p / 64) 0

      column : entry (unpack (map folded x)) p ≡ bit (folded w) j
      column =
          entry_word (map folded x) p (length-map x folded ∙ long)
          ∙ ap (λ z. bit z j) (ap (get_or (map folded x) (p / 64)) (sym (fold_zero (2 ^ k) mask)) ∙ get_or-map folded x (p / 64) 0)

      go : (z : Bool) → low_bit k j ≡ z → place_right z (bit mask j) (ltb (2 ^ k + j) 64) ≡ true
          → (bit w (2 ^ k + j) && bit mask j) ≡ (low_bit k p && bit (get_or x ((p + 2 ^ k) / 64) 0) ((p + 2 ^ k) % 64))
      go true e h =
          let (one, near) = and_both (bit mask j) (ltb (2 ^ k + j) 64) h in
          let small : 2 ^ k + j < 64 = ltb-true _ _ near in
          let high : (p + 2 ^ k) / 64 ≡ p / 64 = omega arith in
          let low : (p + 2 ^ k) % 64 ≡ 2 ^ k + j = omega arith in
          rw (one, and-true, low_place k p few, e, high, low)
      go false e h = rw (not-true (bit mask j) h, and-false, low_place k p few, e)

module _ (k : ℕ) (past-six : 6 ≤ k) (x : List ℕ) (long : length x ≡ 8) where
  -- half a block
  abbrev half : ℕ
  half = 2 ^ (k - 6)

  -- the numbers after the step
  abbrev joined : ℕ → ℕ
  joined i = bit_xor (get_or x i 0) (partner_of x half i)

  -- a number that is added or not
  bit_if : (z : Bool) (w j : ℕ) → bit (cond z w 0) j ≡ (z && bit w j)
  bit_if true w j = refl
  bit_if false w j = bit_zero j

  -- zero is zero, added or not
  zero_if_lem : (z : Bool) → cond {A = ℕ} z 0 0 ≡ 0
  zero_if_lem true = refl
  zero_if_lem false = refl

  -- a step between numbers
  pub between_words : Stepped k (entry (unpack x)) (entry (unpack (map joined (below 8))))
  unfolding low_bit partner_of
  between_words p =
      from_bits k x long p _
      (column_of joined past p
      ∙ bit_xor_lem (get_or x i 0) (partner_of x half i) j
      ∙ ap (xor (bit (get_or x i 0) j)) (bit_if (eqb (i / half % 2) 0) (get_or x (i + half) 0) j ∙ rw (low, high, place)))
    where
      i : ℕ
      i = p / 64

      j : ℕ
      j = p % 64

      six : k ≡ 6 + (k - 6)
      six = omega arith

      block : 2 ^ k ≡ 64 * half
      block = ap (λ e. 2 ^ e) six ∙ pow-add 2 6 (k - 6)

      low : eqb (p / 2 ^ k % 2) 0 ≡ eqb (i / half % 2) 0
      low = sym (ap (λ z. eqb (z % 2) 0) (shr-shr p 6 (k - 6)) ∙ ap (λ e. eqb (p / 2 ^ e % 2) 0) (sym six))

      high : (p + 2 ^ k) / 64 ≡ i + half
      high = omega (arith, block)

      place : (p + 2 ^ k) % 64 ≡ j
      place = omega (arith, block)

      past : (q : ℕ) → 8 ≤ q → joined q ≡ 0
      past q l =
          ap₂ bit_xor (get_or-eq_default x 0 {n = q} (omega arith))
          (ap (λ x. cond (eqb (q / half % 2) 0) x 0) (get_or-eq_default x 0 {n = q + half} (omega arith)) ∙ zero_if_lem (eqb (q / half % 2) 0))
          ∙ xor_zero_l 0
