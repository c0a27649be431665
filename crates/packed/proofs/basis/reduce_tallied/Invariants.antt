use mathlib.Core.Path.{◌≡◌}
use lib.ListN.{length}
use Rattle.gf2.specs.Prefix.{Tallies}
use Rattle.packed.specs.Packed.{unpacked}
use Rattle.packed.proofs.basis.reduce_tallied.Given as goal

abbrev pub invariant-loop-k : goal.invariant-loop-k
invariant-loop-k l = record {
  long : length l.tally ≡ 512;
  tallies : Tallies l.k l.row (unpacked l.initial.ws) (unpacked l.ws) l.initial.tally l.tally;
}
