use mathlib.Core.Path.{◌≡◌, sym}
use native.Mathlib.Omega.{arith}
use Rattle.std.proofs.lemmas.Result.{err_from_is_err_and}
use Rattle.cube.specs.Cube.{size}
use Rattle.polynomial.proofs.Converted.{convert_refuses, convert_taps, convert_asks, convert_accepts}
use Rattle.polynomial.proofs.convert.convert.Goals as goal
use Rattle.polynomial.proofs.convert.convert.Goals.{After-size-points}

-- the number of points
points : (c : After-size-points) → c.size-points.result ≡ size c.args.n
points c = c.size-points.ensures.0 (omega (arith, convert_taps c.args.n c.args.bytes.now (sym c.in_ok-convert_checks.ensures)))

pub returns-in_err-convert_checks : goal.returns-in_err-convert_checks
returns-in_err-convert_checks c = let p = err_from_is_err_and c.from_residual.result c.from_residual.ensures.1 in rw (p.1, p.2) (convert_refuses _ _ (sym c.in_err-convert_checks.ensures))

pub transform-requires : goal.transform-requires
transform-requires c = rw (points (goal.at.transform-requires c).After-size-points) (convert_asks c.args.n c.args.bytes.now (sym c.in_ok-convert_checks.ensures))

pub returns : goal.returns
returns c =
    let p = points (goal.at.returns c).After-size-points in
    rw p (convert_accepts c.args.n c.args.bytes.now (sym c.in_ok-convert_checks.ensures) c.transform.new.s (rw p at c.transform.ensures))
