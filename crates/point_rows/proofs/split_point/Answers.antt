use Rattle.std.proofs.Common.{arith, ◌≤◌, ◌/◌}
use lib.Pow.{pow_mono}
use Rattle.point_rows.proofs.Splitting.{splits_by}
use Rattle.point_rows.proofs.split_point.Goals as goal

pub overflow_sub-result-3 : goal.overflow_sub-result-3
overflow_sub-result-3 c = let half : c.args.n / 2 ≤ c.args.n = omega arith in omega (arith, c.size-low.ensures.0 (omega arith), c.size.ensures.0 (omega arith), pow_mono half)

pub returns : goal.returns
returns c = splits_by c.args.n (c.args.n / 2) c.args.a.0 c.size-low.result c.size.result (c.size-low.ensures.0 (omega arith)) (c.size.ensures.0 (omega arith)) (omega arith) (omega arith)
