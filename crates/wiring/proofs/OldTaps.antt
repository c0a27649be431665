-- Old points by their taps, and the identity.
--   old_taps          the old point has as tap `entry i` tap i of the new one
--   old_only          and there is only one such point
--   identity_at       an entry of the identity
--   identity_wiring   the identity is a wiring
--   identity_old      under it the old point is the new one
use mathlib.Core.Path.{◌≡◌, sym, ap, ◌∙◌}
use mathlib.Core.List.{List}
use Prim.Native.Nat.{ℕ, suc, ◌-◌, ◌<◌}
use native.Mathlib.Omega.{arith}
use native.Mathlib.Decide.{dec_lt}
use lib.ListN.{get_or, length-map}
use Rattle.cube.specs.NumberLists.{below}
use Rattle.cube.specs.Cube.{size}
use Rattle.cube.proofs.Bits.{bit}
use Rattle.cube.proofs.Bitwise.{bit_past, bits_same}
use Rattle.cube.proofs.Masks.{length_from, value_at}
use Rattle.wiring.specs.Wiring.{Wiring, tap, places, spread, old_point, identity}
use Rattle.wiring.proofs.Spread.{spread_at}
use Rattle.wiring.proofs.Wirings.{place_entry, places_long, places_distinct, wiring_named, moves}

module _ {n : ℕ} {ts : List ℕ} (w : Wiring n ts) where
  -- the old point has as tap `entry i` tap i of the new one
  pub old_taps : (a i : ℕ) → i < n → tap n (get_or ts i 0) (old_point n ts a) ≡ tap n (suc i) a
  unfolding old_point
  old_taps a i l =
      ap (λ k. bit k (spread (places n ts) a)) (sym (place_entry w i l))
      ∙ spread_at (places n ts) a i (places_distinct w) (omega (arith, places_long w))
      ∙ ap (λ k. bit (k - suc i) a) (places_long w)

  -- and there is only one such point of n taps
  pub old_only : (a x : ℕ) → x < size n → ((i : ℕ) → i < n → tap n (get_or ts i 0) x ≡ tap n (suc i) a) → x ≡ old_point n ts a
  old_only a x l h = bits_same x (old_point n ts a) (λ j. elim (dec_lt j n) [
    | yes m ↦
        let (i, k, e) = wiring_named w (n - suc j) (omega arith) in
        let q : n - get_or ts i 0 ≡ j = omega (arith, e) in
        ap (λ y. bit y x) (sym q) ∙ h i k ∙ sym (old_taps a i k) ∙ ap (λ y. bit y (old_point n ts a)) q
    | no m ↦ bit_past n j x l (omega arith) ∙ sym (bit_past n j (old_point n ts a) ((moves w).inside a) (omega arith))
  ])

-- an entry of the identity
pub identity_at : (n i : ℕ) → i < n → get_or (identity n) i 0 ≡ suc i
unfolding identity
identity_at n i l = value_at suc n i 0 l

-- the identity is a wiring
pub identity_wiring : (n : ℕ) → Wiring n (identity n)
unfolding identity
identity_wiring n = record {
  long = length-map (below n) suc ∙ length_from 0 n;
  inside = λ i l. (omega (arith, identity_at n i l), omega (arith, identity_at n i l));
  once = λ i j l m e. omega (arith, identity_at n i l, identity_at n j m, e);
}

-- under it the old point is the new one
pub identity_old : (n a : ℕ) → a < size n → old_point n (identity n) a ≡ a
identity_old n a l = sym (old_only (identity_wiring n) a a l (λ i m. ap (λ t. tap n t a) (identity_at n i m)))
