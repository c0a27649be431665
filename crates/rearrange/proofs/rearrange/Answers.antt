use mathlib.Core.Path.{sym}
use Rattle.std.proofs.lemmas.Result.{err_from_is_err_and}
use Rattle.rearrange.proofs.Answers.{rearrange_refuses, rearrange_accepts}
use Rattle.rearrange.proofs.rearrange.Goals as goal

pub rearrange_points-requires : goal.rearrange_points-requires
rearrange_points-requires c = sym c.in_ok-rearrange_checks.ensures

pub returns-in_err-rearrange_checks : goal.returns-in_err-rearrange_checks
returns-in_err-rearrange_checks c = let p = err_from_is_err_and c.from_residual.result c.from_residual.ensures.1 in rw (p.1, p.2) (rearrange_refuses _ _ _ _ (sym c.in_err-rearrange_checks.ensures))

pub returns : goal.returns
returns c = let (set, table) = c.rearrange_points.ensures in rearrange_accepts _ _ _ _ (sym c.in_ok-rearrange_checks.ensures) set table
