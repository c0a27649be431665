-- Numbers by their bits. A bit x at place b is the number x * 2 ^ b.
--   bit_small      a bit is 0 or 1
--   bit_or_lem         a bit of a disjunction
--   bit_past       past its length a number has no bit
--   bit_zero       zero has no bit
--   bit_here       a bit at a place stands there
--   bit_there      and nowhere else
--   power_inside   at a place below m it is a number of m bits
--   power_le       a bit of a smaller one is no greater
--   bits_same      numbers with the same bits are the same
--   front_bit      the bit in front of a number of k bits
--   front_low      leaves its bits
--   ones_or        the ones of a disjunction and a conjunction are those of both
--   ones_bit       a bit is its own count
--   ones_power     and so at its place
use mathlib.Core.Path.{◌≡◌, refl, sym, ap, ◌∙◌}
use Prim.Native.Nat.{ℕ, zero, suc, ◌+◌, ◌-◌, ◌*◌, ◌/◌, ◌%◌, ◌^◌, ◌≤◌, ◌<◌, min, max}
use native.Mathlib.Omega.{arith}
use native.Mathlib.Decide.{dec_lt}
use native.Mathlib.Nat.{le_refl, mod-eq_of_lt, div-eq_of_lt, mul_assoc}
use lib.Arith.{bin_ind}
use lib.Bits.{bit_and, bit_or, and_step, or_step, and_shr, or_shr, and_comm, shifted_even, or_shifted}
use lib.Count.{ones, ones_step, ones_cat}
use lib.Pow.{pow-add, pow-lt, pow_mono, pow_pos, shl-shr, high}
use borrow.Author.Tests.{eqb-true}
use Rattle.cube.specs.Cube.{within}
use Rattle.cube.proofs.Bits.{bit, within_bits}

-- a bit is 0 or 1
pub bit_small : (i x : ℕ) → bit i x ≤ 1
bit_small i x = omega arith

-- a bit of a disjunction
pub bit_or_lem : (i u v : ℕ) → bit i (bit_or u v) ≡ max (bit i u) (bit i v)
bit_or_lem i u v = ap (λ (x : ℕ). x % 2) (or_shr u v i) ∙ omega (arith, or_step (u / 2 ^ i) (v / 2 ^ i))

-- past its length a number has no bit
pub bit_past : (n i x : ℕ) → x < 2 ^ n → n ≤ i → bit i x ≡ 0
bit_past n i x l h =
    let none : x / 2 ^ i ≡ 0 = div-eq_of_lt (omega (arith, pow_mono h)) in
    ap (λ (y : ℕ). y % 2) none

-- zero has no bit
pub bit_zero : (i : ℕ) → bit i 0 ≡ 0
bit_zero i = bit_past 0 i 0 (omega arith) (omega arith)

-- a bit at a place stands there
pub bit_here : (b x : ℕ) → x ≤ 1 → bit b (x * 2 ^ b) ≡ x
bit_here b x l = ap (λ (y : ℕ). y % 2) (shl-shr x b) ∙ mod-eq_of_lt (omega arith)

-- at a place below m it is a number of m bits
pub power_inside : (m b x : ℕ) → b < m → x ≤ 1 → x * 2 ^ b < 2 ^ m
power_inside m b zero l h = omega (arith, pow_pos m)
power_inside m b (suc zero) l h = omega (arith, pow-lt l)
power_inside m b (suc (suc x)) l h = absurd (omega arith)

-- below its place there is none
lower : (k j x : ℕ) → bit j (x * 2 ^ (suc k + j)) ≡ 0
lower k j x =
    let e : x * 2 ^ (suc k + j) ≡ x * 2 ^ suc k * 2 ^ j = ap (λ y. x * y) (pow-add 2 (suc k) j) ∙ sym (mul_assoc x (2 ^ suc k) (2 ^ j)) in
    ap (bit j) e ∙ ap (λ (y : ℕ). y % 2) (shl-shr (x * 2 ^ suc k) j) ∙ shifted_even x k

-- and nowhere else
pub bit_there : (b j x : ℕ) → x ≤ 1 → ¬ (j ≡ b) → bit j (x * 2 ^ b) ≡ 0
bit_there b j x l h = elim (dec_lt j b) [
  | yes i ↦ let e : b ≡ suc (b - suc j) + j = omega arith in ap (λ k. bit j (x * 2 ^ k)) e ∙ lower (b - suc j) j x
  | no i ↦ bit_past (suc b) j (x * 2 ^ b) (power_inside (suc b) b x (omega arith) l) (omega arith)
]

-- a bit of a smaller one is no greater
pub power_le : (b j x y : ℕ) → x ≤ y → y ≤ 1 → bit j (x * 2 ^ b) ≤ bit j (y * 2 ^ b)
power_le b j zero y l h =
    let e : 0 * 2 ^ b ≡ 0 = omega arith in
    let none : bit j (0 * 2 ^ b) ≡ 0 = ap (bit j) e ∙ bit_zero j in
    omega (arith, none)
power_le b j (suc x) y l h = let e : suc x ≡ y = omega arith in rw e (le_refl _)

-- numbers with the same bits are the same
pub bits_same : (u v : ℕ) → ((i : ℕ) → bit i u ≡ bit i v) → u ≡ v
unfolding within
bits_same u v h =
    sym (eqb-true (bit_and u v) u ((within_bits u v).1 (λ i. omega (arith, h i)))) ∙ and_comm u v
    ∙ eqb-true (bit_and v u) v ((within_bits v u).1 (λ i. omega (arith, h i)))

-- the bit in front of a number of k bits
pub front_bit : (k r : ℕ) → r < 2 ^ k → bit k (2 ^ k + r) ≡ 1
front_bit k r l =
    let e : 2 ^ k + r ≡ 1 * 2 ^ k + r = omega arith in
    ap (λ x. bit k x) e ∙ ap (λ (y : ℕ). y % 2) (high 1 k l)

-- leaves its bits
pub front_low : (k r j : ℕ) → r < 2 ^ k → j < k → bit j (2 ^ k + r) ≡ bit j r
front_low k r j l i =
    let e : 2 ^ k + r ≡ 1 * 2 ^ k + r = omega arith in
    ap (bit j) (e ∙ sym (or_shifted 1 k r l)) ∙ omega (arith, bit_or_lem j (1 * 2 ^ k) r, bit_there k j 1 (omega arith) (λ q. omega arith))

-- the ones of a disjunction and a conjunction are those of both
pub ones_or : (u v : ℕ) → ones (bit_or u v) + ones (bit_and u v) ≡ ones u + ones v
ones_or = bin_ind (λ (u : ℕ). (v : ℕ) → ones (bit_or u v) + ones (bit_and u v) ≡ ones u + ones v) (λ v. base v) (λ u ih v. step u v (ih (v / 2)))
  where
    base : (v : ℕ) → ones (bit_or 0 v) + ones (bit_and 0 v) ≡ ones 0 + ones v
    base v = omega arith

    step : (u v : ℕ) → ones (bit_or (u / 2) (v / 2)) + ones (bit_and (u / 2) (v / 2)) ≡ ones (u / 2) + ones (v / 2)
        → ones (bit_or u v) + ones (bit_and u v) ≡ ones u + ones v
    step u v ih =
        let o : bit_or u v / 2 ≡ bit_or (u / 2) (v / 2) = or_shr u v 1 in
        let a : bit_and u v / 2 ≡ bit_and (u / 2) (v / 2) = and_shr u v 1 in
        let ob : bit_or u v % 2 ≡ max (u % 2) (v % 2) = omega (arith, or_step u v) in
        let ab : bit_and u v % 2 ≡ min (u % 2) (v % 2) = omega (arith, and_step u v) in
        omega (arith, ones_step u, ones_step v, ones_step (bit_or u v), ones_step (bit_and u v), ap ones o, ap ones a, ob, ab, ih)

-- a bit is its own count
pub ones_bit : (x : ℕ) → x ≤ 1 → ones x ≡ x
unfolding ones
ones_bit zero l = refl
ones_bit (suc zero) l = refl
ones_bit (suc (suc x)) l = absurd (omega arith)

-- and so at its place
pub ones_power : (b x : ℕ) → x ≤ 1 → ones (x * 2 ^ b) ≡ x
ones_power b x l =
    let e : x * 2 ^ b ≡ x * 2 ^ b + 0 = omega arith in
    ap ones e ∙ omega (arith, ones_cat b x 0 (pow_pos b), ones_bit x l, ones_bit 0 (omega arith))
