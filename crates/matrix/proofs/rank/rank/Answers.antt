use mathlib.Core.Path.{sym, ap, ◌∙◌}
use lib.ListN.{length}
use Rattle.std.proofs.lemmas.Result.{err_from_is_err_and}
use Rattle.order.specs.BuiltIn.{graded}
use Rattle.cube.specs.Mask.{points}
use Rattle.matrix.specs.Kept.{kept_mask}
use Rattle.matrix.specs.Rank.{ranked}
use Rattle.matrix.proofs.Ranked.{rank_passed, refuses, accepts}
use Rattle.matrix.proofs.rank.rank.Goals as goal

pub rank_points-requires : goal.rank_points-requires
rank_points-requires c =
    let a = c.args in
    let p = rank_passed a.mask.now a.n a.d (length a.workspace.now) (length a.kept.now) (sym c.in_ok-rank_checks.ensures) in
    (p.mask_long, p.workspace_long, p.kept_long, p.few_taps, p.low, p.formed)

pub returns-in_err-rank_checks : goal.returns-in_err-rank_checks
returns-in_err-rank_checks c = let p = err_from_is_err_and c.from_residual.result c.from_residual.ensures.1 in rw (p.1, p.2) (refuses _ _ _ _ _ _ (sym c.in_err-rank_checks.ensures))

pub returns : goal.returns
returns c =
    let a = c.args in
    accepts graded a.mask.now a.n a.d a.workspace.now a.kept.now (sym c.in_ok-rank_checks.ensures) (c.rank_points.ensures.ranked ∙ ap (λ o. ranked o a.n a.d (points a.mask.now)) c.graded_order-order.ensures)
    c.rank_points.ensures.workspace_cleared (c.rank_points.ensures.kept_marked ∙ ap (λ o. kept_mask o a.n a.d (points a.mask.now)) c.graded_order-order.ensures)
