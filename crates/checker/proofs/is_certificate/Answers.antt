use Rattle.std.proofs.Common.{rules, arith, ◌≡◌, ◌/◌, length, ◌∙◌}
use Rattle.std.specs.Simd.{first_chunks}
use Rattle.order.proofs.BuiltIn.{graded_is_graded}
use Rattle.filter.proofs.Filters.{few_taps}
use Rattle.filter.proofs.AtDegree.{AtDegree}
use Rattle.checker.proofs.Checked.{check_shown, check_length, rows_checked}
use Rattle.checker.proofs.is_certificate.Goals as goal
use Rattle.checker.proofs.is_certificate.Goals.{Start}

-- what the checks have shown
shown : (c : Start) → let a = c.args in AtDegree a.n a.set.now a.table.now a.side a.d
shown c = let a = c.args in check_shown a.set.now a.table.now a.n a.side a.d (length a.certificate.now) c.requires

-- the certificate is 4096 long
long : (c : Start) → length c.args.certificate.now ≡ 4096
long c = let a = c.args in check_length a.set.now a.table.now a.n a.side a.d (length a.certificate.now) c.requires

pub unwrap-set-requires : goal.unwrap-set-requires
unwrap-set-requires c = c.as_array.ensures.variant.1 (shown (goal.at.unwrap-set-requires c).Start).filter.set_long

pub unwrap-table-requires : goal.unwrap-table-requires
unwrap-table-requires c = c.as_array-2.ensures.variant.1 (shown (goal.at.unwrap-table-requires c).Start).filter.table_long

pub overflow_cast-d : goal.overflow_cast-d
overflow_cast-d c = let p = shown (goal.at.overflow_cast-d c).Start in omega (arith, p.low, few_taps _ _ _ p.filter)

pub columns_row-columns-requires : goal.columns_row-columns-requires
columns_row-columns-requires c = few_taps c.args.n c.args.set.now c.args.table.now (shown (goal.at.columns_row-columns-requires c).Start).filter

pub unwrap-rows-requires : goal.unwrap-rows-requires
unwrap-rows-requires c = c.as_array-3.ensures.variant.1 (omega (arith, c.as_chunks.ensures.front_len, long (goal.at.unwrap-rows-requires c).Start))

pub returns : goal.returns
returns c =
    let a = c.args in
    let set : c.unwrap-set.result.now ≡ a.set.now = search rules in
    let table : c.unwrap-table.result.now ≡ a.table.now = search rules in
    let rows : c.unwrap-rows.result.now ≡ first_chunks 8 (length a.certificate.now / 8) a.certificate.now = search rules in
    let whole = long (goal.at.returns c).Start in
    let count : length a.certificate.now / 8 ≡ 512 = omega (arith, whole) in
    let parts = rw (set, table) at c.part_mask-part.ensures in
    c.rows_right.ensures
    ∙ rw (set, rows, count)
    (rows_checked graded_is_graded (shown (goal.at.returns c).Start).filter a.side a.d c.part_mask-part.result a.certificate.now parts (search rules) whole c.others_row-others.ensures c.columns_row-columns.ensures)
