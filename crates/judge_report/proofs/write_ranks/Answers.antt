-- One degree more is three numbers more (flat_next).
use Rattle.std.proofs.Common.{rules, arith}
use Rattle.immunity.proofs.Flat.{flat_none, flat_next}
use Rattle.judge_report.proofs.write_ranks.Goals as goal

pub loop-d-init : goal.loop-d-init
loop-d-init c = flat_none c.args.report.now c.args.ranks

pub loop-d-preserved : goal.loop-d-preserved
loop-d-preserved c =
    rw (c.from.ensures, c.from-in-loop-d.ensures, c.from-in-loop-d-2.ensures)
    (flat_next c.loop-d.report c.args.ranks c.loop-d.d (search rules) (omega arith) c.loop-d.invariant)
