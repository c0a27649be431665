use Rattle.cube.specs.Mask.{points}
use Rattle.packed.specs.Packed.{zeros}
use Rattle.witness.proofs.Written.{none_written}
use Rattle.witness.proofs.write_side.Goals as goal

pub returns-clause-witness_written : goal.returns-clause-witness_written
unfolding zeros
returns-clause-witness_written c =
    none_written c.args.order.now.graded c.args.n c.args.d (points c.args.set.now) (points c.args.part.now) (c.requires.5 c.if-differs.false)
