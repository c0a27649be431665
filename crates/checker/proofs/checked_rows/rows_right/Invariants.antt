-- What is named for each point below a is right.
use mathlib.Core.Path.{◌≡◌}
use mathlib.Core.Bool.{Bool, true}
use mathlib.Core.List.{List, []}
use Prim.Native.Nat.{ℕ, ◌<◌}
use lib.ListN.{get_or}
use Rattle.packed.specs.Packed.{unpack}
use Rattle.checker.specs.CheckedRows.{checked_row}
use Rattle.checker.proofs.checked_rows.rows_right.Given as goal

-- the test of a point
abbrev pub test : List (List ℕ) → List ℕ → List ℕ → List ℕ → List ℕ → ℕ → Bool
test certificate set part others columns a = checked_row set part (unpack others) (unpack columns) (unpack (get_or certificate a [])) a

abbrev pub invariant-loop-a : goal.invariant-loop-a
invariant-loop-a l = (b : ℕ) → b < l.a → test l.certificate l.set l.part l.others.0 l.columns.0 b ≡ true
