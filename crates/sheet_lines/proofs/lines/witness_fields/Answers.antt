-- One field more where the witness chooses the exponent at place i of the graded order (appends_next).
use Rattle.std.proofs.Common.{◌≡◌, ◌<◌, ◌∙◌, sym, ap, subst, arith, get_or, take, true, false}
use borrow.Author.Tests.{eq-eqb, ne_eqb}
use Rattle.cube.specs.NumberLists.{select}
use Rattle.cube.specs.Mask.{member}
use Rattle.cube.proofs.Listed.{select_take_yes, select_take_no}
use Rattle.order.specs.BuiltIn.{graded}
use Rattle.order.proofs.BuiltIn.{graded_is_graded}
use Rattle.buffer.proofs.Appending.{appends_none, appends_moved, appends_same}
use Rattle.text.specs.Text.{field, joined, fields}
use Rattle.text.proofs.Joined.{appends_next}
use Rattle.sheet_lines.proofs.lines.witness_fields.Goals as goal
use Rattle.sheet_lines.proofs.lines.witness_fields.Goals.{After-exponent_at-u, then-witness-from-eq1, else-witness-from-eq1}

-- what is read of the order
read_is : (c : After-exponent_at-u) → c.exponent_at-u.result.0 ≡ get_or graded c.loop-i.i 0
read_is c = c.exponent_at-u.ensures ∙ ap (λ o. get_or o c.loop-i.i 0) c.graded_order-order.ensures

-- it is below 512
read_small : (c : After-exponent_at-u) → c.exponent_at-u.result.0 < 512
read_small c = omega (arith, read_is c, graded_is_graded.inside c.loop-i.i c.loop-i-test.true)

pub loop-i-init : goal.loop-i-init
unfolding joined select
loop-i-init c = (omega arith, appends_none c.args.text.now c.args.at)

pub bounds-witness-from : goal.bounds-witness-from
bounds-witness-from c = omega (arith, read_small (goal.at.bounds-witness-from c).After-exponent_at-u, c.from.ensures)

pub loop-i-preserved : goal.loop-i-preserved
loop-i-preserved c =
    let i = c.loop-i.i in
    let v = c.loop-i.invariant in
    let t = member c.args.witness.now in
    let e = read_is (goal.at.loop-i-preserved c).After-exponent_at-u in
    let small = read_small (goal.at.loop-i-preserved c).After-exponent_at-u in
    let read = c.from.ensures ∙ e in
    elim c.if-witness-from-eq1.branch [
      | then-witness-from-eq1 w ↦ (
        omega (arith, w.place-is, w.append_field-place.ensures.upper_bound.1 (omega (arith, small, w.from-then-witness-from-eq1.ensures))),
        appends_moved w.text-is w.place-is
            (appends_next field (select t (take i graded)) _ (get_or graded i 0) (omega arith)
            (select_take_yes t graded i (omega (arith, graded_is_graded.long)) (subst (λ x. t x ≡ true) read (eq-eqb _ _ w.if-witness-from-eq1.true)))
            v.1 (rw (w.from-then-witness-from-eq1.ensures ∙ e) at w.append_field-place.ensures.appends)),
      )
      | else-witness-from-eq1 w ↦ (
        omega (arith, w.place-is),
        appends_moved w.text-is w.place-is
            (appends_same (sym (ap fields (select_take_no t graded i (omega (arith, graded_is_graded.long)) (subst (λ x. t x ≡ false) read (ne_eqb _ _ w.if-witness-from-eq1.false))))) v.1),
      )
    ]
