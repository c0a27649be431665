-- Old points as the code lists them, and masks gathered by them.
--   old_none           zeros list the old points of the numbers below 2^0
--   old_next           doubled, the old points of the numbers below 2^k are those below 2^(k + 1)
--   old_below          old points of up to nine taps are below 512
--   gathered_rewired   bytes gathered at old points are the rearranged mask
use mathlib.Core.Path.{◌≡◌, refl, sym, ap, ◌∙◌, fun_ext}
use mathlib.Core.Bool.{Bool, true, false, ◌&&◌}
use mathlib.Core.List.{List}
use Prim.Native.Nat.{ℕ, suc, ◌+◌, ◌-◌, ◌*◌, ◌^◌, ◌≤◌, ◌<◌}
use native.Mathlib.Omega.{arith}
use native.Mathlib.Decide.{dec_lt}
use native.Mathlib.Nat.{pow-suc}
use native.Mathlib.Numerals.{add-one}
use lib.Bits.{bit_or}
use lib.Dec.{ltb}
use lib.ListN.{length, get_or, replicate, get_or-replicate}
use lib.Pow.{pow_mono}
use borrow.Author.Tests.{ltb-true}
use Rattle.cube.specs.Cube.{size}
use Rattle.cube.specs.Mask.{member, mask}
use Rattle.wiring.specs.Wiring.{Wiring, places, spread, old_point, rewired}
use Rattle.rearrange.specs.OldPoints.{OldPoints, Doubled, gathered}
use Rattle.wiring.proofs.Spread.{spread_zero, spread_front}
use Rattle.wiring.proofs.Wirings.{place_entry, places_long, moves}

-- zeros list the old points of the numbers below 2^0
pub old_none : (n : ℕ) (ts : List ℕ) → OldPoints n ts 0 (replicate 512 0)
unfolding old_point
old_none n ts = record {
  at = λ a l. let e : a ≡ 0 = omega arith in rw e (get_or-replicate {A = ℕ} 512 0 0 0 (omega arith) ∙ sym (spread_zero (places n ts)));
}

module _ {n : ℕ} {ts : List ℕ} (w : Wiring n ts) where
  -- a point with one bit more in front has one bit more in its old point
  old_front : (k r : ℕ) → k < n → r < 2 ^ k → old_point n ts (2 ^ k + r) ≡ bit_or (2 ^ (n - get_or ts (n - 1 - k) 0)) (old_point n ts r)
  unfolding old_point
  old_front k r l m =
      let long : length (places n ts) ≡ n = places_long w in
      let last : length (places n ts) - suc k ≡ n - 1 - k = omega (arith, long) in
      let place : get_or (places n ts) (length (places n ts) - suc k) 0 ≡ n - get_or ts (n - 1 - k) 0 =
      ap (λ i. get_or (places n ts) i 0) last ∙ place_entry w (n - 1 - k) (omega arith) in
      spread_front (places n ts) k r (omega (arith, long)) m ∙ ap (λ p. bit_or (2 ^ p) (spread (places n ts) r)) place

  -- doubled, the old points of the numbers below 2^k are those below 2^(k + 1)
  pub old_next : {k : ℕ} {ps qs : List ℕ} → k < n → OldPoints n ts k ps → Doubled k (n - get_or ts (n - 1 - k) 0) ps qs → OldPoints n ts (k + 1) qs
  old_next {k} {ps} {qs} l old new = record {
    at = λ a m. elim (dec_lt a (2 ^ k)) [
      | yes i ↦ new.low a i ∙ old.at a i
      | no i ↦
          let r : ℕ = a - 2 ^ k in
          let twice : 2 ^ suc k ≡ 2 ^ k * 2 = pow-suc 2 k in
          let more : 2 ^ (k + 1) ≡ 2 ^ suc k = ap (λ j. 2 ^ j) (add-one k) in
          let e : 2 ^ k + r ≡ a = omega arith in
          let q : r < 2 ^ k = omega (arith, twice, more) in
          ap (λ b. get_or qs b 0) (sym e) ∙ new.high r q ∙ ap (bit_or (2 ^ (n - get_or ts (n - 1 - k) 0))) (old.at r q)
          ∙ sym (old_front k r l q) ∙ ap (old_point n ts) e
    ];
  }

  -- old points of up to nine taps are below 512
  pub old_below : {ps : List ℕ} → n ≤ 9 → OldPoints n ts n ps → (a : ℕ) → a < size n → get_or ps a 0 < 512
  old_below small old a l = omega (arith, old.at a l, (moves w).inside a, pow_mono small)

-- bytes gathered at old points are the rearranged mask
pub gathered_rewired : {n : ℕ} {ts ps : List ℕ} → OldPoints n ts n ps → (b : List ℕ) → gathered n ps b ≡ rewired n ts b
unfolding gathered rewired
gathered_rewired {n} {ts} {ps} old b = ap (λ (t : ℕ → Bool). mask t) (fun_ext (λ a. go a (ltb a (size n)) refl))
  where
    go : (a : ℕ) (c : Bool) → ltb a (size n) ≡ c → (c && member b (get_or ps a 0)) ≡ (c && member b (old_point n ts a))
    go a true e = ap (member b) (old.at a (ltb-true a (size n) e))
    go a false e = refl
