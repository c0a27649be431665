-- The bytes of the points that are passed (Passed) are written.
use mathlib.Core.List.{List}
use Prim.Native.Nat.{ℕ}
use Rattle.buffer.specs.Appends.{Appends}
use Rattle.point_list.proofs.Passed.{Passed}
use Rattle.point_list.proofs.append_points.Given as goal

abbrev pub invariant-loop-i : goal.invariant-loop-i
invariant-loop-i l = (done : List ℕ) × Passed l.mask done l.prev l.i × Appends done l.initial.output l.output l.from l.at
