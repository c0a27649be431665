use Prim.Native.Nat.{◌≤◌}
use Rattle.gf2.specs.Steps.{Reduces}
use Rattle.packed.specs.Packed.{unpacked}
use Rattle.packed.proofs.basis.reduce.Given as goal

abbrev pub invariant-loop-j : goal.invariant-loop-j
invariant-loop-j l = record {
  few : l.count ≤ l.j;
  reduces : Reduces l.j l.row (unpacked l.initial.ws) (unpacked l.ws) l.count;
}
