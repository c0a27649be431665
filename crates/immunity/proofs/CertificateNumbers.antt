-- The numbers of a certificate.
--   number_same           numbers of n bits with the same bits are the same
--   certificate_numbers   those that Certify writes are of 64 bits
--   certificate_only      a certificate of such numbers is the only one
use mathlib.Core.Path.{◌≡◌, refl, sym, ap, ◌∙◌}
use mathlib.Core.Bool.{false}
use mathlib.Core.List.{List}
use Prim.Native.Nat.{ℕ, zero, suc, ◌+◌, ◌*◌, ◌/◌, ◌%◌, ◌^◌, ◌<◌}
use native.Mathlib.Decide.{dec_lt}
use native.Mathlib.Nat.{div-one}
use native.Mathlib.Omega.{arith}
use lib.ListN.{length, get_or, take, drop, length-map, length-take, get_or-eq_default}
use lib.Pow.{pow_mono, pow_pos, shr-shr}
use lib.Seq.{ext_get_or}
use Rattle.cube.specs.NumberLists.{below}
use Rattle.cube.specs.Mask.{points}
use Rattle.cube.proofs.Masks.{length_from, value_at}
use Rattle.gf2.specs.Vector.{Row}
use Rattle.packed.specs.Packed.{odd, bits_of, number}
use Rattle.packed.proofs.Packing.{number_bound, number_bits}
use Rattle.filter.specs.Part.{part}
use Rattle.immunity.specs.Certificate.{bit_of, IsCertificate, sum_if, number_at, certificate}
use Rattle.immunity.proofs.Certificates.{certificate_unique}

-- numbers with the same low bits have the same rows of bits
bits_same : (n x y : ℕ) → ((r : ℕ) → r < n → odd (x / 2 ^ r) ≡ odd (y / 2 ^ r)) → bits_of n x ≡ bits_of n y
unfolding bits_of
bits_same zero x y h = refl
bits_same (suc n) x y h =
    let low : odd x ≡ odd y = simp div-one at (h 0 (omega arith)) in
    let up : (r : ℕ) → suc r ≡ 1 + r = λ r. omega arith in
    let high : bits_of n (x / 2) ≡ bits_of n (y / 2) = bits_same n (x / 2) (y / 2) (λ r l.
    ap odd (shr-shr x 1 r) ∙ ap (λ i. odd (x / 2 ^ i)) (sym (up r)) ∙ h (suc r) (omega arith) ∙ ap (λ i. odd (y / 2 ^ i)) (up r) ∙ sym (ap odd (shr-shr y 1 r))) in
    cc (low, high)

-- so numbers of n bits with the same bits are the same
pub number_same : (n x y : ℕ) → x < 2 ^ n → y < 2 ^ n → ((r : ℕ) → r < n → odd (x / 2 ^ r) ≡ odd (y / 2 ^ r)) → x ≡ y
number_same n x y l m h = sym (number_bits n x l) ∙ ap number (bits_same n x y h) ∙ number_bits n y m

-- the numbers that Certify writes are of 64 bits
pub certificate_numbers : (o : List ℕ) (n : ℕ) (s f : List ℕ) (side d i : ℕ) → get_or (certificate o n s f side d) i 0 < 2 ^ 64
unfolding certificate
certificate_numbers o n s f side d i = elim (dec_lt i 4096) [
  | yes l ↦ rw (value_at (number_at x) 4096 i 0 l) (small (drop (64 * (i % 8)) (x (i / 8))))
  | no l ↦ rw (get_or-eq_default (certificate o n s f side d) 0 {n = i} (omega (arith, length-map (below 4096) (number_at x), length_from 0 4096))) (pow_pos 64)
]
  where
    x : ℕ → Row
    x = sum_if o n d (points s) (part side s f)

    small : (v : Row) → number (take 64 v) < 2 ^ 64
    small v = omega (arith, number_bound (take 64 v), pow_mono {i = length (take 64 v)} {j = 64} (rw length-take (omega arith)))

-- a certificate of such numbers is the only one
pub certificate_only : {o : List ℕ} {n d : ℕ} {ss ps : List ℕ} (b c : List ℕ) → IsCertificate o n d ss ps b → IsCertificate o n d ss ps c
    → ((i : ℕ) → get_or b i 0 < 2 ^ 64) → ((i : ℕ) → get_or c i 0 < 2 ^ 64) → b ≡ c
unfolding bit_of
certificate_only b c x y l m = ext_get_or 0 b c (x.long ∙ sym y.long) (λ i h. number_same 64 (get_or b i 0) (get_or c i 0) (l i) (m i) (same i (omega (arith, x.long))))
  where
    bit : (i : ℕ) → i < 4096 → (r : ℕ) → r < 64 → bit_of b (i / 8) (64 * (i % 8) + r) ≡ bit_of c (i / 8) (64 * (i % 8) + r)
    bit i h r g =
        let q : ℕ = 64 * (i % 8) + r in
        sym (value_at (bit_of b (i / 8)) 512 q false (omega arith)) ∙ certificate_unique x y (i / 8) (omega arith) q ∙ value_at (bit_of c (i / 8)) 512 q false (omega arith)

    same : (i : ℕ) → i < 4096 → (r : ℕ) → r < 64 → odd (get_or b i 0 / 2 ^ r) ≡ odd (get_or c i 0 / 2 ^ r)
    same i h r g =
        let q : ℕ = 64 * (i % 8) + r in
        let number : 8 * (i / 8) + q / 64 ≡ i = omega arith in
        let place : q % 64 ≡ r = omega arith in
        rw (number, place) at (bit i h r g)
