use Rattle.rearrange.specs.OldPoints.{OldPoints}
use Rattle.rearrange.proofs.old_points.Given as goal

abbrev pub invariant-loop-k : goal.invariant-loop-k
invariant-loop-k l = OldPoints l.n l.wiring l.k l.old
