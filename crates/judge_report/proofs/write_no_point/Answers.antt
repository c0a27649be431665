use Rattle.std.proofs.Common.{refl, None, arith}
use Rattle.filter.specs.Sides.{pair}
use Rattle.judge_report.proofs.Numbers.{flat_last}
use Rattle.judge_report.proofs.write_no_point.Goals as goal

pub returns : goal.returns
returns c =
    flat_last c.write_ranks.new.report _ None None 0 (pair None None) None (omega arith) c.write_ranks.ensures refl refl
