use Rattle.std.proofs.Common.{rules, arith, false, ◌≡◌}
use Rattle.cube.specs.Cube.{size}
use Rattle.order.specs.Order.{is_column}
use Rattle.cube.proofs.Masks.{values_told}
use Rattle.packed.proofs.Words.{length_unpack}
use Rattle.checker.proofs.checked_rows.columns_row.Goals as goal

pub returns : goal.returns
returns c =
    let points : c.size-points.result ≡ size c.args.n = c.size-points.ensures.0 (omega arith) in
    values_told (is_column c.args.n c.args.d) 512 false _ (length_unpack c.row_where.result) (λ u h. let told = c.row_where.ensures u h in search rules)
