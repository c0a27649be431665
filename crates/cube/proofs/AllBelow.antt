-- Tests of each number below a bound.
--   all_says     each number below a bound passes just if the test of all of them does
--   all_same     tests that agree below the bound
--   all_wrong    a number that does not pass
use mathlib.Core.Path.{◌≡◌, refl, sym, ◌∙◌}
use mathlib.Core.Logic.{◌↔◌}
use mathlib.Core.Bool.{Bool, true, false, ◌&&◌, false≢true}
use Prim.Native.Nat.{ℕ, zero, suc, ◌<◌}
use native.Mathlib.Decide.{dec_lt}
use native.Mathlib.Omega.{arith}
use Rattle.cube.specs.NumberLists.{all_below}
use Rattle.cube.proofs.Listed.{and_both}

-- one number more
all_step : (m : ℕ) (t : ℕ → Bool) → ((all_below m t ≡ true) ↔ ((u : ℕ) → u < m → t u ≡ true))
    → ((t m && all_below m t) ≡ true) ↔ ((u : ℕ) → u < suc m → t u ≡ true)
all_step m t later = (
  λ e u l. elim (dec_lt u m) [
    | yes i ↦ later.0 (and_both (t m) (all_below m t) e).1 u i
    | no i ↦ let q : u ≡ m = omega arith in rw q (and_both (t m) (all_below m t) e).0
  ],
  λ h. rw (h m (omega arith), later.1 (λ u l. h u (omega arith))),
)

-- each passes just if the test of all of them does
pub all_says : (m : ℕ) (t : ℕ → Bool) → (all_below m t ≡ true) ↔ ((u : ℕ) → u < m → t u ≡ true)
unfolding all_below
all_says zero t = (λ e u l. absurd (omega arith), λ h. refl)
all_says (suc m) t = all_step m t (all_says m t)

-- tests that agree below the bound
pub all_same : (m : ℕ) (t r : ℕ → Bool) → ((u : ℕ) → u < m → t u ≡ r u) → all_below m t ≡ all_below m r
unfolding all_below
all_same zero t r h = refl
all_same (suc m) t r h = rw (h m (omega arith), all_same m t r (λ u l. h u (omega arith)))

-- a number that does not pass
pub all_wrong : (m u : ℕ) (t : ℕ → Bool) → u < m → t u ≡ false → all_below m t ≡ false
all_wrong m u t l e = go (all_below m t) refl
  where
    go : (b : Bool) → all_below m t ≡ b → b ≡ false
    go true h = absurd (false≢true (sym e ∙ (all_says m t).0 h u l))
    go false h = refl
