-- The loop's invariant: the points below q are taken with their combinations.
use mathlib.Core.Path.{◌≡◌}
use Prim.Native.Nat.{◌≤◌}
use lib.ListN.{length}
use Rattle.gf2.specs.Steps.{Pivots}
use Rattle.packed.specs.Packed.{unpacked}
use Rattle.matrix.proofs.Taking.{points_to}
use Rattle.matrix.specs.Combination.{Combines}
use Rattle.matrix.proofs.combination.eliminate_combining.Given as goal

abbrev pub invariant-loop-q : goal.invariant-loop-q
invariant-loop-q l = record {
  at_most : l.kept ≤ l.q;
  rows : length l.ws ≡ 1024;
  room : length l.places ≡ 512;
  pivots : Pivots l.pivots (unpacked l.ws) l.kept;
  combines : Combines (unpacked l.initial.ws) (unpacked l.ws) l.columns (points_to l.mask l.q) l.kept l.places;
}
