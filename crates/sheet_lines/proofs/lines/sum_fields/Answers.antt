-- One field more where the row names the point (appends_next).
use Rattle.std.proofs.Common.{sym, ap, ◌∙◌, arith}
use Rattle.cube.specs.NumberLists.{up_from, below, select}
use Rattle.cube.proofs.Masks.{select_yes, select_no}
use Rattle.gf2.specs.Vector.{entry}
use Rattle.packed.specs.Packed.{unpack}
use Rattle.buffer.proofs.Appending.{appends_none, appends_moved, appends_same}
use Rattle.text.specs.Text.{field, joined, fields}
use Rattle.text.proofs.Joined.{appends_next}
use Rattle.sheet_lines.proofs.lines.sum_fields.Goals as goal
use Rattle.sheet_lines.proofs.lines.sum_fields.Goals.{then-entry, else-entry}

pub loop-q-init : goal.loop-q-init
unfolding joined select up_from
loop-q-init c = (omega arith, appends_none c.args.text.now c.args.at)

pub loop-q-preserved : goal.loop-q-preserved
loop-q-preserved c =
    let q = c.loop-q.q in
    let i = c.loop-q.invariant in
    let t = entry (unpack c.args.row.now) in
    elim c.if-entry.branch [
      | then-entry w ↦ (
        omega (arith, w.place-is, w.append_field-place.ensures.upper_bound.1 (omega arith)),
        appends_moved w.text-is w.place-is (appends_next field (select t (below q)) _ q (omega arith) (select_yes t q (sym c.entry.ensures ∙ w.if-entry.true)) i.1 w.append_field-place.ensures.appends),
      )
      | else-entry w ↦ (
        omega (arith, w.place-is),
        appends_moved w.text-is w.place-is (appends_same (sym (ap fields (select_no t q (sym c.entry.ensures ∙ w.if-entry.false)))) i.1),
      )
    ]
