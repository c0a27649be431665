use Rattle.std.proofs.Common.{arith, ◌≡◌}
use Rattle.cube.specs.Cube.{size}
use Rattle.point_rows.proofs.ExponentList.{found_none, found_yes, found_no, found_all}
use Rattle.point_rows.proofs.exponents.Goals as goal
use Rattle.point_rows.proofs.exponents.Goals.{then-u-points, else-u-points}

pub loop-i-init : goal.loop-i-init
loop-i-init c = found_none c.args.order.now.list c.args.n

pub loop-i-preserved : goal.loop-i-preserved
loop-i-preserved c =
    let g = c.args.order.now.graded in
    let points : c.size-points.result ≡ size c.args.n = c.size-points.ensures.0 (omega arith) in
    elim c.if-u-points.branch [
      | then-u-points w ↦ rw (w.list-is, w.count-is, c.exponent_at-u.ensures) (found_yes g c.loop-i.invariant (omega arith) (omega (arith, points, c.exponent_at-u.ensures, w.if-u-points.true)))
      | else-u-points w ↦ rw (w.list-is, w.count-is) (found_no g c.loop-i.invariant (omega arith) (omega (arith, points, c.exponent_at-u.ensures, w.if-u-points.false)))
    ]

pub returns : goal.returns
returns c = found_all c.args.order.now.graded c.loop-i.invariant (omega arith)
