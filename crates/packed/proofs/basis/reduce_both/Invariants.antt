use mathlib.Core.Path.{◌≡◌}
use Rattle.gf2.specs.Steps.{reduced_both}
use Rattle.packed.specs.Packed.{unpacked}
use Rattle.packed.proofs.basis.reduce_both.Given as goal

abbrev pub invariant-loop-i : goal.invariant-loop-i
invariant-loop-i l = unpacked l.ws ≡ reduced_both l.i l.row l.sum l.places (unpacked l.initial.ws)
