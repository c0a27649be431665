use mathlib.Core.Path.{sym}
use Rattle.std.proofs.lemmas.Result.{err_from_is_err_and}
use Rattle.certify.proofs.Certifying.{refuses, in_order}
use Rattle.certify.proofs.certify.Goals as goal

pub certify_points-requires : goal.certify_points-requires
certify_points-requires c = sym c.in_ok-certify_checks.ensures

pub returns-in_err-certify_checks : goal.returns-in_err-certify_checks
returns-in_err-certify_checks c = let p = err_from_is_err_and c.from_residual.result c.from_residual.ensures.1 in rw (p.1, p.2) (refuses _ _ _ _ _ _ _ _ (sym c.in_err-certify_checks.ensures))

pub returns : goal.returns
returns c =
    let a = c.args in
    in_order _ a.set.now a.table.now a.n a.side a.d a.workspace.now a.certificate.now c.graded_order-order.ensures c.certify_points.ensures
