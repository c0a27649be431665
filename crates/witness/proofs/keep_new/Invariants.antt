use Rattle.gf2.specs.Steps.{Pivots}
use Rattle.packed.specs.Packed.{unpacked}
use Rattle.witness.proofs.NewRow.{Tried}
use Rattle.witness.proofs.keep_new.Given as goal

abbrev pub invariant-loop-a : goal.invariant-loop-a
invariant-loop-a l = record {
  pivots : Pivots l.pivots (unpacked l.ws) l.kept;
  tried : Tried (unpacked l.initial.ws) (unpacked l.ws) l.kept l.columns l.set l.a;
}
