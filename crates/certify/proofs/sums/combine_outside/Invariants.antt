use mathlib.Core.Path.{◌≡◌}
use lib.ListN.{length}
use Rattle.packed.specs.Packed.{unpacked}
use Rattle.certify.specs.Sums.{Sums}
use Rattle.certify.proofs.sums.combine_outside.Given as goal

abbrev pub invariant-loop-a : goal.invariant-loop-a
invariant-loop-a l = record {
  long : length l.ws ≡ 1024;
  sums : Sums (unpacked l.initial.ws) (unpacked l.ws) l.columns l.kept l.places l.set l.part l.a;
}
