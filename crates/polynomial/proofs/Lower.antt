-- The lower half of a list is added into the upper, a byte a turn.
--   sums h s       the sums of the bytes of the lower half of s, of h bytes, with those of the upper
--   lower_start    before the first turn nothing is replaced
--   lower_turn     a turn replaces one byte more by its sum
--   lower_end      after the last turn the lower half is added into the upper
use mathlib.Core.Path.{◌≡◌, sym, ap, ap₂, ◌∙◌}
use mathlib.Core.List.{List, ◌++◌, map, append-nil}
use Prim.Native.Nat.{ℕ, suc, ◌+◌, ◌≤◌, ◌<◌}
use native.Mathlib.Numerals.{add-one}
use native.Mathlib.Omega.{arith}
use lib.Bits.{bit_xor}
use lib.ListN.{length, get_or, set, take, drop, length-map, get_or-append, drop_of_length-le}
use lib.Seq.{paste, paste-zero, paste-suc, length_paste_head, length-take-le, get_or-take, get_or_at, drop-cons, take_all}
use Rattle.cube.specs.NumberLists.{below}
use Rattle.cube.proofs.Masks.{length_from, value_at}
use Rattle.polynomial.specs.Convert.{lower_added}

-- the sums of the bytes of two halves
abbrev pub sums : ℕ → List ℕ → List ℕ
sums h s = map (λ k. bit_xor (get_or s k 0) (get_or s (h + k) 0)) (below h)

-- there are h of them
length_sums : (h : ℕ) (s : List ℕ) → length (sums h s) ≡ h
length_sums h s = length-map (below h) (λ k. bit_xor (get_or s k 0) (get_or s (h + k) 0)) ∙ length_from 0 h

-- before the first turn nothing is replaced
pub lower_start : (h : ℕ) (s : List ℕ) → s ≡ paste s h (sums h s) 0
lower_start h s = paste-zero s h (sums h s)

module _ (h : ℕ) (s : List ℕ) (long : length s ≡ h + h) where
  -- what has been replaced, with the lower half before it
  head_length : (i : ℕ) → i ≤ h → length (take h s ++ take i (sums h s)) ≡ h + i
  head_length i l = length_paste_head s h (sums h s) i (omega arith) (omega (arith, length_sums h s))

  -- the lower half is as it was
  lower_at : (i : ℕ) → i < h → get_or (paste s h (sums h s) i) i 0 ≡ get_or s i 0
  lower_at i l =
      get_or-append (take h s ++ take i (sums h s)) (drop (h + i) s) 0 i (omega (arith, head_length i (omega arith)))
      ∙ get_or-append (take h s) (take i (sums h s)) 0 i (omega (arith, length-take-le h s (omega arith)))
      ∙ get_or-take h s i 0 l

  -- and so is what is not replaced yet
  upper_at : (i : ℕ) → i < h → get_or (paste s h (sums h s) i) (h + i) 0 ≡ get_or s (h + i) 0
  upper_at i l =
      rw (drop-cons s (h + i) 0 (omega arith))
      (get_or_at (take h s ++ take i (sums h s)) (get_or s (h + i) 0) (drop (suc (h + i)) s) 0 (h + i) (head_length i (omega arith)))

  -- a turn replaces one byte more by its sum
  pub lower_turn : (i : ℕ) (r : List ℕ) → i < h → r ≡ paste s h (sums h s) i
      → set r (h + i) (bit_xor (get_or r i 0) (get_or r (h + i) 0)) ≡ paste s h (sums h s) (i + 1)
  lower_turn i r l e =
      let sum : bit_xor (get_or r i 0) (get_or r (h + i) 0) ≡ get_or (sums h s) i 0 =
      ap₂ bit_xor (ap (λ x. get_or x i 0) e ∙ lower_at i l) (ap (λ x. get_or x (h + i) 0) e ∙ upper_at i l)
      ∙ sym (value_at (λ k. bit_xor (get_or s k 0) (get_or s (h + k) 0)) h i 0 l) in
      ap₂ (λ x y. set x (h + i) y) e sum
      ∙ paste-suc s h (sums h s) i 0 (omega arith) (omega (arith, length_sums h s))
      ∙ ap (paste s h (sums h s)) (sym (add-one i))

  -- after the last turn the lower half is added into the upper
  pub lower_end : (i : ℕ) (r : List ℕ) → h ≤ i → i ≤ h → r ≡ paste s h (sums h s) i → r ≡ lower_added h s
  lower_end i r l m e =
      let q : i ≡ h = omega arith in
      let all : take h (sums h s) ≡ sums h s = take_all h (sums h s) (omega (arith, length_sums h s)) in
      let none : drop (h + h) s ≡ drop (length s) s = ap (λ k. drop k s) (sym long) in
      e ∙ ap (paste s h (sums h s)) q
      ∙ ap₂ (λ x y. take h s ++ x ++ y) all (drop_of_length-le s {i = h + h} (omega arith))
      ∙ append-nil (take h s ++ sums h s)
