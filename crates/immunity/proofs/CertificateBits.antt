-- Rows over points as eight numbers of 64 bits each.
--   bit_number       the bits of a number are those that it was made of
--   certificate_bit  bit q of a point's row in Certify's certificate
--   named_row        the row that Certify's certificate names for a point
use mathlib.Core.Path.{◌≡◌, sym, ap, ◌∙◌}
use mathlib.Core.Bool.{Bool, true, false}
use mathlib.Core.List.{List, [], ◌∷◌}
use Prim.Native.Nat.{ℕ, zero, suc, ◌+◌, ◌*◌, ◌/◌, ◌%◌, ◌^◌, ◌≤◌, ◌<◌}
use native.Mathlib.Decide.{dec_lt}
use native.Mathlib.Nat.{div-one, zero-div}
use native.Mathlib.Omega.{arith}
use lib.Dec.{eqb}
use lib.ListN.{length, take, drop, length-map, get_or-eq_default}
use lib.Pow.{shr-shr}
use lib.Seq.{get_or-take, get_or-drop}
use Rattle.cube.specs.NumberLists.{below}
use Rattle.cube.specs.Mask.{points}
use Rattle.cube.proofs.Masks.{length_from, value_at}
use Rattle.gf2.specs.Vector.{Row, entry, Same, digit}
use Rattle.packed.specs.Packed.{number}
use Rattle.filter.specs.Part.{part}
use Rattle.immunity.specs.Certificate.{bit_of, named, sum_if, number_at, certificate}

-- a bit above a number is its lowest bit
low_bit_lem : (b : Bool) (m : ℕ) → eqb ((m * 2 + digit b) % 2) 1 ≡ b
low_bit_lem true m = let e : (m * 2 + 1) % 2 ≡ 1 = omega arith in rw e
low_bit_lem false m = let e : (m * 2 + 0) % 2 ≡ 0 = omega arith in rw e

-- without it the number is left
high_bits : (b : Bool) (m : ℕ) → (m * 2 + digit b) / 2 ≡ m
high_bits true m = omega arith
high_bits false m = omega arith

-- the bits of a number are those that it was made of
pub bit_number : (bs : List Bool) (k : ℕ) → eqb (number bs / 2 ^ k % 2) 1 ≡ entry bs k
unfolding number
bit_number [] k = rw (zero-div (2 ^ k))
bit_number (b ∷ bs) zero = rw div-one (low_bit_lem b (number bs))
bit_number (b ∷ bs) (suc k) =
    let x : ℕ = number bs * 2 + digit b in
    let up : suc k ≡ 1 + k = omega arith in
    let e : x / 2 ^ suc k ≡ number bs / 2 ^ k = ap (λ j. x / 2 ^ j) up ∙ sym (shr-shr x 1 k) ∙ ap (λ y. y / 2 ^ k) (high_bits b (number bs)) in
    rw e (bit_number bs k)

module _ (o : List ℕ) (n : ℕ) (s f : List ℕ) (side d a : ℕ) (small : a < 512) where
  -- the row of the point
  abbrev x : Row
  x = sum_if o n d (points s) (part side s f) a

  -- bit q of a point's row in Certify's certificate
  pub certificate_bit : (q : ℕ) → q < 512 → bit_of (certificate o n s f side d) a q ≡ entry x q
  unfolding bit_of certificate
  certificate_bit q l =
      let i : ℕ = 8 * a + q / 64 in
      let low : i % 8 ≡ q / 64 = omega arith in
      let high : i / 8 ≡ a = omega arith in
      let at : 64 * (q / 64) + q % 64 ≡ q = omega arith in
      rw (
        value_at (number_at (sum_if o n d (points s) (part side s f))) 4096 i 0 (omega arith),
        low,
        high,
        bit_number (take 64 (drop (64 * (q / 64)) x)) (q % 64),
        get_or-take 64 (drop (64 * (q / 64)) x) (q % 64) false (omega arith),
        get_or-drop (64 * (q / 64)) x (q % 64) false,
        at,
      )

  -- the row that Certify's certificate names for a point whose sum is of points below 512
  pub named_row : ((q : ℕ) → 512 ≤ q → entry x q ≡ false) → Same (named (certificate o n s f side d) a) x
  named_row h q =
      let c : List ℕ = certificate o n s f side d in
      let long : length (named c a) ≡ 512 = length-map (below 512) (bit_of c a) ∙ length_from 0 512 in
      elim (dec_lt q 512) [
        | yes l ↦ value_at (bit_of c a) 512 q false l ∙ certificate_bit q l
        | no l ↦ get_or-eq_default (named c a) false {n = q} (omega arith) ∙ sym (h q (omega arith))
      ]
