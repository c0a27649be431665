use Rattle.std.proofs.Common.{arith, ◌≡◌, add-one}
use Rattle.gf2.specs.Vector.{entry}
use Rattle.packed.specs.Packed.{unpack}
use Rattle.packed.proofs.Words.{length_unpack}
use Rattle.superset_sums.proofs.Blocks.{blocks_none, blocks_step, blocks_all}
use Rattle.superset_sums.proofs.superset_sums.Goals as goal

pub loop-k-init : goal.loop-k-init
loop-k-init c = blocks_none (entry (unpack c.args.points.0))

pub loop-k-preserved : goal.loop-k-preserved
loop-k-preserved c =
    rw add-one (blocks_step c.loop-k.k (entry (unpack c.args.points.0)) (entry (unpack c.loop-k.sums)) _ c.loop-k.invariant c.step.ensures)

pub returns : goal.returns
returns c =
    let e : c.loop-k.k ≡ 9 = omega arith in
    blocks_all _ _ (length_unpack c.loop-k.sums) (rw e at c.loop-k.invariant)
