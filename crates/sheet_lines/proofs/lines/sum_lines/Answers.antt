-- One line more for a point of the set outside the part (appends_next).
use Rattle.std.proofs.Common.{sym, ap, arith}
use borrow.Author.Tests.{eq-eqb, ne_eqb}
use Rattle.cube.specs.NumberLists.{up_from, select}
use Rattle.buffer.proofs.Appending.{appends_none, appends_moved, appends_same}
use Rattle.text.specs.Text.{joined}
use Rattle.text.proofs.Joined.{appends_next}
use Rattle.sheet_lines.specs.Lines.{sum_line}
use Rattle.sheet_lines.proofs.OutsideTo.{outside_to, outside_yes, outside_part, outside_set}
use Rattle.sheet_lines.proofs.PointRows.{row_names}
use Rattle.sheet_lines.proofs.lines.sum_lines.Invariants.{line_of}
use Rattle.sheet_lines.proofs.lines.sum_lines.Goals as goal
use Rattle.sheet_lines.proofs.lines.sum_lines.Goals.{then-set-a-eq1+then-table-a, else-set-a-eq1, else-set-a-eq1-via-then-set-a-eq1+else-table-a, else-set-a-eq1-via-else-set-a-eq1}

pub loop-a-init : goal.loop-a-init
unfolding joined select up_from
loop-a-init c = (omega arith, appends_none c.args.text.now c.args.at)

pub sum_line-place-requires : goal.sum_line-place-requires
sum_line-place-requires c = omega arith

pub loop-a-preserved : goal.loop-a-preserved
loop-a-preserved c =
    let a = c.loop-a.a in
    let i = c.loop-a.invariant in
    let f = line_of c.args.side c.args.certificate.now in
    let side = c.args.side in
    let set = c.args.set.now in
    let table = c.args.table.now in
    elim c.if-set-a-eq1.branch [
      | then-set-a-eq1+then-table-a w ↦ (
        omega (arith, w.place-is, w.sum_line-place.ensures.1),
        appends_moved w.text-is w.place-is
            (appends_next f (outside_to side set table a) _ a (omega arith) (outside_yes side set table a (eq-eqb _ _ w.if-set-a-eq1.true) (ne_eqb _ _ w.if-table-a.true)) i.1
            (appends_same (ap (sum_line side a) (row_names c.args.certificate.now a c.as_chunks.ensures.front (omega arith))) w.sum_line-place.ensures.0)),
      )
      | else-set-a-eq1 w ↦ (
        omega (arith, w.place-is),
        appends_moved w.text-is w.place-is (appends_same (sym (ap (joined f) (elim w.else-set-a-eq1.branch [
          | else-set-a-eq1-via-then-set-a-eq1+else-table-a v ↦ outside_part side set table a (eq-eqb _ _ v.if-set-a-eq1.true) (eq-eqb _ _ v.if-table-a.false)
          | else-set-a-eq1-via-else-set-a-eq1 v ↦ outside_set side set table a (ne_eqb _ _ v.if-set-a-eq1.false)
        ]))) i.1),
      )
    ]
