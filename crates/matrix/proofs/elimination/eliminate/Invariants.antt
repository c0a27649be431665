-- The loop's invariant: the kept rows, their points and the additions so far are those of the elimination of the points below a.
use Prim.Native.Nat.{◌*◌, ◌≤◌}
use Rattle.gf2.specs.Steps.{Pivots}
use Rattle.packed.specs.Packed.{unpacked}
use Rattle.matrix.specs.Workspace.{Eliminates}
use Rattle.matrix.specs.Kept.{KeptAt}
use Rattle.matrix.proofs.Taking.{points_to}
use Rattle.matrix.proofs.elimination.eliminate.Given as goal

abbrev pub invariant-loop-a : goal.invariant-loop-a
invariant-loop-a l = record {
  at_most : l.kept ≤ l.a;
  few : l.additions ≤ l.a * 512;
  pivots : Pivots l.pivots (unpacked l.ws) l.kept;
  eliminates : Eliminates (unpacked l.initial.ws) (unpacked l.ws) l.columns (points_to l.mask l.a) l.kept l.additions;
  kept_at : KeptAt (unpacked l.initial.ws) l.columns (points_to l.mask l.a) l.kept l.points;
}
