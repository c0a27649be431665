use Rattle.std.proofs.Common.{rules, arith}
use Rattle.std.proofs.lemmas.List.Edits.{fill_by_more}
use Rattle.cube.specs.Mask.{byte}
use Rattle.filter.proofs.PartPoints.{part_test, part_points}
use Rattle.filter.proofs.part.part_mask.Goals as goal

pub loop-a-preserved : goal.loop-a-preserved
loop-a-preserved c =
    let a = c.args in
    record {
      long = search rules;
      bytes = rw c.part_byte.ensures (fill_by_more (λ b. byte (part_test a.side a.set.now a.table.now b)) c.loop-a.mask c.loop-a.a 0 (omega arith) c.loop-a.invariant.bytes);
    }

pub returns : goal.returns
returns c =
    let a = c.args in
    part_points a.side a.set.now a.table.now c.loop-a.mask (search rules) c.loop-a.invariant.long (λ b h. c.loop-a.invariant.bytes b (omega arith))
