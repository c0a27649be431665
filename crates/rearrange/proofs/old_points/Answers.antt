-- The loop's invariant: the old points of all numbers below 2^k are listed (OldPoints at k); doubled, they are those at k + 1 (old_next).
use native.Mathlib.Omega.{arith}
use Rattle.rearrange.proofs.Gathered.{old_none, old_next}
use Rattle.rearrange.proofs.old_points.Goals as goal

pub loop-k-init : goal.loop-k-init
loop-k-init c = let a = c.args in old_none a.n a.wiring.now

pub loop-k-preserved : goal.loop-k-preserved
loop-k-preserved c = old_next c.requires.1 (omega arith) c.loop-k.invariant c.double.ensures
