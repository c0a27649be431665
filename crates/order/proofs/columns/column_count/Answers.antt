-- A turn is columns_next.
use mathlib.Core.Path.{◌≡◌, sym, ap, ap₂, ◌∙◌}
use mathlib.Core.Bool.{◌&&◌}
use native.Mathlib.Omega.{arith}
use lib.Dec.{leb, ltb}
use lib.ListN.{get_or}
use Rattle.cube.specs.Cube.{weight}
use Rattle.cube.specs.Mask.{byte}
use Rattle.order.specs.Order.{is_column}
use Rattle.order.proofs.ColumnCount.{columns_next, columns_end}
use Rattle.order.proofs.columns.column_count.Goals as goal
use Rattle.order.proofs.columns.column_count.Goals.{else-is_column, then-is_column}

pub loop-i-init : goal.loop-i-init
loop-i-init c = record { few = omega arith; same = omega arith }

pub loop-i-preserved : goal.loop-i-preserved
loop-i-preserved c =
    let n = c.args.n in
    let d = c.args.d in
    let i = c.loop-i.i in
    let x = get_or c.args.order.now.list i 0 in
    let b : c.is_column.result ≡ is_column n d x = c.is_column.ensures
    ∙ ap₂ (λ m y. ltb y m && leb (weight y) d) (c.size-points.ensures.0 (omega arith)) c.exponent_at.ensures in
    let next = columns_next c.args.order.now.graded n d i (omega arith) in
    elim c.if-is_column.branch [
      | then-is_column w ↦ let e : byte (is_column n d x) ≡ 1 = ap byte (sym b ∙ w.if-is_column.true) in
          record { few = omega arith; same = omega (arith, next, e, c.loop-i.invariant.same) }
      | else-is_column w ↦ let e : byte (is_column n d x) ≡ 0 = ap byte (sym b ∙ w.if-is_column.false) in
          record { few = omega arith; same = omega (arith, next, e, c.loop-i.invariant.same) }
    ]

pub returns : goal.returns
returns c = omega (arith, columns_end c.args.order.now.graded c.args.n c.args.d c.loop-i.i (omega arith), c.loop-i.invariant.same)
