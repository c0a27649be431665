-- A broken check refuses (refuses); a set without a point is judged by zeros, and any other by judge_points, in the built-in order (in_order).
use Rattle.std.proofs.Common.{sym, ap, ap₂, ◌∙◌, subst, length}
use Rattle.std.proofs.lemmas.Result.{err_from_is_err_and}
use Rattle.cube.proofs.Listed.{empty_nil}
use Rattle.packed.specs.Packed.{zeros}
use Rattle.filter.specs.Sides.{pair}
use Rattle.judge.proofs.Passed.{judge_passed}
use Rattle.judge.proofs.Judging.{judgement_none, refuses, accepts}
use Rattle.judge.proofs.judge.Goals as goal

pub returns-in_err-judge_checks : goal.returns-in_err-judge_checks
returns-in_err-judge_checks c =
    let p = err_from_is_err_and c.from_residual.result c.from_residual.ensures.1 in
    rw (p.1, p.2) (refuses _ _ _ _ _ _ _ _ (sym c.in_err-judge_checks.ensures))

pub returns-then-is_empty : goal.returns-then-is_empty
returns-then-is_empty c =
    let a = c.args in
    let passed = sym c.in_ok-judge_checks.ensures in
    let shown = judge_passed a.n a.set.now a.table.now (length a.workspace.now) (length a.one.now) (length a.zero.now) (length a.kept.now) passed in
    let left = c.judge_no_point.ensures in
    accepts _ a.set.now a.table.now a.n a.workspace.now a.one.now a.zero.now a.kept.now passed left.ws_cleared
    (rw left.no_point_found.0 (judgement_none _ a.n a.set.now a.table.now (empty_nil _ (sym c.is_empty.ensures ∙ c.if-is_empty.true)) left.no_point_found.1
    (ap₂ pair (left.one_cleared ∙ ap zeros shown.one_long) (left.zero_cleared ∙ ap zeros shown.zero_long)) (left.kept_cleared ∙ ap zeros shown.kept_long)))

pub judge_points-requires : goal.judge_points-requires
judge_points-requires c =
    (sym c.in_ok-judge_checks.ensures, sym c.is_empty.ensures ∙ c.if-is_empty.false)
