-- The columns below c are as the test says, and the others have no one.
use mathlib.Core.Path.{◌≡◌}
use mathlib.Core.Bool.{false}
use Prim.Native.Nat.{ℕ, ◌≤◌, ◌<◌}
use Rattle.gf2.specs.Vector.{entry}
use Rattle.packed.specs.Packed.{unpack}
use Rattle.checker.proofs.checked_rows.row_where.Given as goal

abbrev pub invariant-loop-c : goal.invariant-loop-c
invariant-loop-c g l = record {
  told : (c : ℕ) → c < l.c → goal.F-post g l.passes c (entry (unpack l.row) c);
  left : (c : ℕ) → l.c ≤ c → c < 512 → entry (unpack l.row) c ≡ false;
}
