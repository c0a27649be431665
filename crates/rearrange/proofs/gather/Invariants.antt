use lib.ListN.{get_or}
use Rattle.cube.specs.Mask.{member}
use Rattle.cube.proofs.Filled.{Fills}
use Rattle.rearrange.proofs.gather.Given as goal

abbrev pub invariant-loop-a : goal.invariant-loop-a
invariant-loop-a l = Fills (λ i. member l.mask (get_or l.old i 0)) l.new l.a
