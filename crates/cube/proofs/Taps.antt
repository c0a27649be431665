-- The number of taps.
--   taps_range   a number of taps is from 1 to 9
use mathlib.Core.Path.{◌≡◌}
use mathlib.Core.Logic.{◌↔◌}
use mathlib.Core.Bool.{true}
use Prim.Native.Nat.{ℕ}
use lib.Dec.{leb}
use borrow.Author.Tests.{leb-true, le-leb}
use Rattle.cube.specs.Cube.{taps, Taps}
use Rattle.cube.proofs.Listed.{and_both}

-- a number of taps is from 1 to 9
pub taps_range : (n : ℕ) → (taps n ≡ true) ↔ Taps n
taps_range n = (
  λ e. let b = and_both (leb 1 n) (leb n 9) e in (leb-true 1 n b.0, leb-true n 9 b.1),
  λ h. rw (le-leb 1 n h.0, le-leb n 9 h.1),
)
