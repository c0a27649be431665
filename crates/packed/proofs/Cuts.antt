-- Rows with zeros from a column on, number by number.
--   columns_cut   where each number of a row keeps its lowest bits, the row has zeros from column c on
use mathlib.Core.Path.{◌≡◌, refl, sym, ap, ap₂, ◌∙◌}
use mathlib.Core.Bool.{false}
use mathlib.Core.List.{[], ◌∷◌, ◌++◌}
use Prim.Native.Nat.{ℕ, zero, suc, ◌-◌, ◌*◌, ◌/◌, ◌%◌, ◌^◌, ◌<◌}
use native.Mathlib.Nat.{mod-one}
use native.Mathlib.Numerals.{add-one}
use native.Mathlib.Omega.{arith}
use lib.Dec.{eqb}
use lib.ListN.{length, replicate}
use lib.Pow.{mod-mod-pow, field}
use Rattle.gf2.specs.Vector.{Row}
use Rattle.gf2.specs.Cut.{cut}
use Rattle.packed.specs.Packed.{bits_of, columns}
use Rattle.packed.proofs.Bitwise.{length_bits}
use Rattle.packed.proofs.Words.{bits_zero}

-- zeros from the first column on
cut_nothing : (v : Row) → cut 0 v ≡ replicate (length v) false
unfolding cut
cut_nothing [] = refl
cut_nothing (x ∷ v) = ap {B = Row} (λ w. false ∷ w) (cut_nothing v)

-- a row in two parts
cut_append : (c : ℕ) (v w : Row) → cut c (v ++ w) ≡ cut c v ++ cut (c - length v) w
unfolding cut
cut_append c [] w = let e : c ≡ c - 0 = omega arith in ap (λ k. cut k w) e
cut_append zero (x ∷ v) w =
    let e : 0 - length v ≡ 0 - suc (length v) = omega arith in
    ap {B = Row} (λ u. false ∷ u) (cut_append zero v w ∙ ap (λ k. cut 0 v ++ cut k w) e)
cut_append (suc c) (x ∷ v) w =
    let e : c - length v ≡ suc c - suc (length v) = omega arith in
    ap {B = Row} (λ u. x ∷ u) (cut_append c v w ∙ ap (λ k. cut c v ++ cut k w) e)

-- the c lowest bits of a number
bits_mod : (n a c : ℕ) → bits_of n (a % 2 ^ c) ≡ cut c (bits_of n a)
unfolding bits_of cut
bits_mod zero a c = refl
bits_mod (suc n) a zero = rw (mod-one a, cut_nothing (bits_of n (a / 2)), length_bits) (ap {B = Row} (λ v. false ∷ v) (bits_zero n))
bits_mod (suc n) a (suc c) =
    let low : a % 2 ^ suc c % 2 ≡ a % 2 = rw (add-one c) at (mod-mod-pow a c 1) in
    let high : a % 2 ^ suc c / 2 ≡ a / 2 % 2 ^ c = rw (add-one c) at (field a c 1) in
    ap₂ {C = Row} (λ x v. x ∷ v) (ap (λ x. eqb x 1) low) (ap (bits_of n) high ∙ bits_mod n (a / 2) c)

-- where each number of a row keeps its lowest bits, the row has zeros from column c on
pub columns_cut : (n c : ℕ) (u w : ℕ → ℕ) → ((k : ℕ) → k < n → w k ≡ u k % 2 ^ (c - k * 64))
    → columns n w ≡ cut c (columns n u)
unfolding columns cut
columns_cut zero c u w e = refl
columns_cut (suc n) c u w e =
    let here : c - 0 * 64 ≡ c = omega arith in
    let first : w 0 ≡ u 0 % 2 ^ c = e 0 (omega arith) ∙ ap (λ i. u 0 % 2 ^ i) here in
    let next : (k : ℕ) → k < n → w (suc k) ≡ u (suc k) % 2 ^ (c - 64 - k * 64) =
    λ k h. let i : c - suc k * 64 ≡ c - 64 - k * 64 = omega arith in e (suc k) (omega arith) ∙ ap (λ j. u (suc k) % 2 ^ j) i in
    let rest : Row = columns n (λ k. u (suc k)) in
    ap₂ {C = Row} (λ p q. p ++ q) (ap (bits_of 64) first ∙ bits_mod 64 (u 0) c) (columns_cut n (c - 64) (λ k. u (suc k)) (λ k. w (suc k)) next)
    ∙ ap (λ i. cut c (bits_of 64 (u 0)) ++ cut (c - i) rest) (sym (length_bits 64 (u 0))) ∙ sym (cut_append c (bits_of 64 (u 0)) rest)
