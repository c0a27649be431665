-- The loop's invariant: the row is reduced by the first j rows, with `count` additions; reduces_next is a turn.
use mathlib.Core.Path.{sym, ap, ◌∙◌, subst}
use mathlib.Core.Bool.{true, false}
use mathlib.Core.List.{[]}
use Prim.Native.Nat.{◌+◌}
use native.Mathlib.Nat.{add-zero}
use native.Mathlib.Omega.{arith}
use lib.ListN.{length-map}
use lib.Seq.{set-get_or}
use Rattle.gf2.specs.Elimination.{count, add_if}
use Rattle.gf2.specs.Steps.{Reduces}
use Rattle.gf2.proofs.Steps.{reduces_none, reduces_next}
use Rattle.packed.specs.Packed.{unpacked}
use Rattle.packed.proofs.Rows.{entry_at, length_stored}
use Rattle.packed.proofs.basis.reduce.Goals as goal
use Rattle.packed.proofs.basis.reduce.Goals.{else-entry, then-entry}

pub loop-j-init : goal.loop-j-init
loop-j-init c = record { few = omega arith; reduces = reduces_none (unpacked c.args.ws.now) c.args.row }

pub loop-j-preserved : goal.loop-j-preserved
unfolding add_if count
loop-j-preserved c =
    let row = c.args.row in
    let now = c.loop-j.ws in
    let t = unpacked c.args.ws.now in
    let r = c.loop-j.invariant.reduces in
    let long = length_stored c.args.ws.now now row _ r.rows in
    let b = entry_at now row _ _ c.entry.result (omega arith) c.entry.ensures (c.requires.3 c.loop-j.j (omega arith)).0 in
    let next = reduces_next t row c.loop-j.j (unpacked now) c.loop-j.count r (rw length-map (omega arith)) in
    let at = Reduces (c.loop-j.j + 1) row t (unpacked c.if-entry.ws) in
    elim c.if-entry.branch [
      | then-entry w ↦ record {
        few = omega arith;
        reduces = subst at (sym w.count-is) (next true _ (omega arith) (sym w.if-entry.true ∙ b) (ap unpacked w.ws-is ∙ w.add_row.ensures));
      }
      | else-entry w ↦ record {
        few = omega arith;
        reduces = subst at (add-zero c.loop-j.count ∙ sym w.count-is)
            (next false _ (omega arith) (sym w.if-entry.false ∙ b) (ap unpacked w.ws-is ∙ sym (set-get_or (unpacked now) row [])));
      }
    ]
