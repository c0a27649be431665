-- The file is made in an array that has room for every file (fits, made); then only whether the output has room for it is tested.
use mathlib.Core.Path.{◌≡◌, sym}
use Prim.Native.Nat.{◌+◌, ◌≤◌}
use native.Mathlib.Omega.{arith}
use lib.ListN.{length, take}
use Rattle.std.proofs.lemmas.Result.{err_from_is_err_and}
use Rattle.refusal.proofs.Verdicts.{refused_stays, passed_on}
use Rattle.cube.specs.Mask.{points}
use Rattle.buffer.proofs.Appending.{appends_same}
use Rattle.varint.specs.Varint.{encode_varint}
use Rattle.filter.specs.Filter.{Filter}
use Rattle.filter.proofs.Filters.{few_taps}
use Rattle.point_list.specs.PointList.{encode_list}
use Rattle.filter_file.specs.Write.{file_of, write_inputs}
use Rattle.filter_file.proofs.WriteAnswers.{write_passed, write_refuses, write_written}
use Rattle.filter_file.proofs.WrittenParts.{file_fits, file_made}
use Rattle.filter_file.proofs.write.write.Goals as goal
use Rattle.filter_file.proofs.write.write.Goals.{In_ok-write_checks, After-append_list-length}

-- what the checks have shown
shown : (c : In_ok-write_checks) → Filter c.args.n c.args.set.now c.args.table.now
shown c = write_passed _ _ _ (sym c.in_ok-write_checks.ensures)

-- there is room for each part
fits : (c : In_ok-write_checks) →
    length (encode_varint c.args.n) + length (encode_list (points c.args.set.now)) + length (encode_list (points c.args.table.now)) ≤ 2053
fits c = file_fits c.args.n c.args.set.now c.args.table.now (shown c)

-- what the array holds
made : (c : After-append_list-length) →
    let file = file_of c.args.n c.args.set.now c.args.table.now in
    (c.append_list-length.result ≡ length file) × (take c.append_list-length.result c.append_list-length.new.output ≡ file)
made c =
    let a = c.args in
    file_made a.n a.set.now a.table.now c.append_varint-set_at.ensures c.append_list-table_at.ensures c.append_list-length.ensures

pub returns-in_err-write_checks : goal.returns-in_err-write_checks
returns-in_err-write_checks c =
    let (_, is, same) = err_from_is_err_and c.from_residual.result c.from_residual.ensures.1 in
    rw (is, same) (write_refuses _ _ _ _ (refused_stays (write_inputs c.args.set.now c.args.table.now c.args.n) _ c.in_err-write_checks.ensures))

pub append_varint-set_at-requires : goal.append_varint-set_at-requires
append_varint-set_at-requires c =
    let start = (goal.at.append_varint-set_at-requires c).In_ok-write_checks in
    (omega (arith, few_taps _ _ _ (shown start)), omega (arith, fits start))

pub append_list-table_at-requires : goal.append_list-table_at-requires
append_list-table_at-requires c =
    let start = (goal.at.append_list-table_at-requires c).In_ok-write_checks in
    (omega (arith, (shown start).set_long), omega (arith, fits start, c.append_varint-set_at.ensures.upto))

pub append_list-length-requires : goal.append_list-length-requires
append_list-length-requires c =
    let start = (goal.at.append_list-length-requires c).In_ok-write_checks in
    (omega (arith, (shown start).table_long), omega (arith, fits start, c.append_varint-set_at.ensures.upto, c.append_list-table_at.ensures.upto))

pub returns-in_err-require : goal.returns-in_err-require
returns-in_err-require c =
    let (_, is, same) = err_from_is_err_and c.from_residual-in_err-require.result c.from_residual-in_err-require.ensures.1 in
    let (long, _) = made (goal.at.returns-in_err-require c).After-append_list-length in
    rw (is, same) (write_refuses _ _ _ _ (passed_on (write_inputs c.args.set.now c.args.table.now c.args.n) _ c.in_ok-write_checks.ensures (rw long at c.in_err-require.ensures)))

pub returns : goal.returns
returns c =
    let (long, file) = made (goal.at.returns c).After-append_list-length in
    write_written _ _ _ _ (passed_on (write_inputs c.args.set.now c.args.table.now c.args.n) _ c.in_ok-write_checks.ensures (rw long at c.in_ok-require.ensures))
    (appends_same file c.append.ensures)
