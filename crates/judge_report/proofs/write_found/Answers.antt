use Rattle.std.proofs.Common.{Some, arith}
use Rattle.judge_report.proofs.Numbers.{flat_last}
use Rattle.judge_report.proofs.write_found.Goals as goal

pub returns : goal.returns
returns c =
    let found = c.args.found in
    rw c.from.ensures (flat_last c.write_ranks.new.report _ (Some found.degree) (Some found.side) found.additions _ (Some found.mark) (omega arith) c.write_ranks.ensures
    c.degree_number.ensures c.degree_number-2.ensures)
