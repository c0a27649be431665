-- A point appends its bytes to those that are written, and another number none; at the end they are those of all points (passed_all).
use mathlib.Core.List.{[]}
use native.Mathlib.Omega.{arith}
use Prim.Native.Nat.{◌-◌}
use lib.ListN.{length-append}
use Rattle.buffer.proofs.Appending.{appends_none, appends_then, appends_same, appends_moved}
use Rattle.varint.specs.Varint.{encode_varint}
use Rattle.point_list.proofs.Passed.{passed_none, passed_point, passed_other, passed_short, passed_all}
use Rattle.point_list.proofs.append_points.Goals as goal
use Rattle.point_list.proofs.append_points.Goals.{then-byte-eq1, else-byte-eq1}

pub loop-i-init : goal.loop-i-init
loop-i-init c = ([], passed_none _, appends_none _ _)

pub loop-i-preserved : goal.loop-i-preserved
loop-i-preserved c =
    let b = c.args.mask.now in
    let (done, passed, written) = c.loop-i.invariant in
    elim c.if-byte-eq1.branch [
      | then-byte-eq1 w ↦ (
        _,
        rw w.prev-is (passed_point b passed c.loop-i-test.true w.if-byte-eq1.true),
        appends_moved w.output-is w.at-is (appends_then (omega arith) written w.append_varint-at.ensures),
      )
      | else-byte-eq1 w ↦ (done, rw w.prev-is (passed_other b passed c.loop-i-test.true w.if-byte-eq1.false), appends_moved w.output-is w.at-is written)
    ]

pub append_varint-at-requires : goal.append_varint-at-requires
append_varint-at-requires c =
    let (done, passed, written) = c.loop-i.invariant in
    let next = passed_point c.args.mask.now passed c.loop-i-test.true c.if-byte-eq1.true in
    (omega arith, omega (arith, c.requires.1, written.upto, passed_short _ next, length-append done (encode_varint (c.loop-i.i - c.loop-i.prev))))

pub returns : goal.returns
returns c = let (done, passed, written) = c.loop-i.invariant in appends_same (passed_all _ passed c.loop-i-test.false) written
