-- After k steps the row has the sums of each block of 2 to the power k.
use Rattle.gf2.specs.Vector.{entry}
use Rattle.packed.specs.Packed.{unpack}
use Rattle.superset_sums.proofs.Blocks.{BlockSums}
use Rattle.superset_sums.proofs.superset_sums.Given as goal

abbrev pub invariant-loop-k : goal.invariant-loop-k
invariant-loop-k l = BlockSums l.k (entry (unpack l.fn.points.0)) (entry (unpack l.sums))
