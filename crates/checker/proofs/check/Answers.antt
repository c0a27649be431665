use mathlib.Core.Path.{sym}
use Rattle.std.proofs.lemmas.Result.{err_from_is_err_and}
use Rattle.checker.proofs.Checked.{check_refuses, check_answers}
use Rattle.checker.proofs.check.Goals as goal

pub is_certificate-requires : goal.is_certificate-requires
is_certificate-requires c = sym c.in_ok-check_inputs.ensures

pub returns-in_err-check_inputs : goal.returns-in_err-check_inputs
returns-in_err-check_inputs c = let p = err_from_is_err_and c.from_residual.result c.from_residual.ensures.1 in rw (p.1, p.2) (check_refuses _ _ _ _ _ _ _ (sym c.in_err-check_inputs.ensures))

pub returns : goal.returns
returns c = check_answers _ _ _ _ _ _ _ (sym c.in_ok-check_inputs.ensures) c.is_certificate.ensures
