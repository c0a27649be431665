-- The loop's invariant: the points below a are taken, whatever the number of columns, the kept ones stand in points, and no number of the tally is above a * 512.
use Prim.Native.Nat.{◌*◌, ◌≤◌}
use Rattle.gf2.specs.Prefix.{AtMost}
use Rattle.gf2.specs.Steps.{Pivots}
use Rattle.packed.specs.Packed.{unpacked}
use Rattle.matrix.specs.Workspace.{EliminatesAll}
use Rattle.matrix.specs.Kept.{KeptAt}
use Rattle.matrix.proofs.Taking.{points_to}
use Rattle.matrix.proofs.tally.eliminate_tallied.Given as goal

abbrev pub invariant-loop-a : goal.invariant-loop-a
invariant-loop-a l = record {
  at_most : l.kept ≤ l.a;
  few : AtMost (l.a * 512) l.tally;
  pivots : Pivots l.pivots (unpacked l.ws) l.kept;
  eliminates : EliminatesAll (unpacked l.initial.ws) (unpacked l.ws) (points_to l.mask l.a) l.kept l.tally;
  kept_at : KeptAt (unpacked l.initial.ws) 512 (points_to l.mask l.a) l.kept l.points;
}
