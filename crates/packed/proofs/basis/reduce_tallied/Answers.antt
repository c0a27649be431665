-- The loop's invariant: the row is reduced by the rows passed, and the tally counts the additions by pivot; tallies_next is a turn.
use mathlib.Core.Path.{sym, ap, ◌∙◌, subst}
use mathlib.Core.Bool.{true, false}
use mathlib.Core.List.{[]}
use Prim.Native.Nat.{◌+◌}
use native.Mathlib.Omega.{arith}
use lib.ListN.{get_or, set, length-map}
use lib.Seq.{set-get_or}
use Rattle.gf2.specs.Elimination.{add_if}
use Rattle.gf2.specs.Prefix.{Tallies}
use Rattle.packed.specs.Packed.{unpacked}
use Rattle.packed.proofs.Rows.{entry_at, length_row, length_stored}
use Rattle.packed.proofs.Tally.{tallies_none, tallies_next}
use Rattle.packed.proofs.basis.reduce_tallied.Goals as goal
use Rattle.packed.proofs.basis.reduce_tallied.Goals.{else-entry, then-entry}

pub loop-k-init : goal.loop-k-init
loop-k-init c = record { long = c.told-tally; tallies = tallies_none (unpacked c.args.ws.now) c.args.row 512 (length_row c.args.ws.now) c.args.tally.now }

pub loop-k-preserved : goal.loop-k-preserved
unfolding add_if
loop-k-preserved c =
    let row = c.args.row in
    let now = c.loop-k.ws in
    let tally = c.loop-k.tally in
    let t = unpacked c.args.ws.now in
    let i = c.loop-k.invariant.tallies in
    let p = c.requires.3 c.loop-k.k (omega arith) in
    let long = length_stored c.args.ws.now now row _ i.rows in
    let b = entry_at now row _ _ c.entry.result (omega arith) c.entry.ensures p.0 in
    let next = tallies_next t row 512 (length_row c.args.ws.now) c.args.tally.now c.loop-k.k (unpacked now) tally i
    (rw length-map (omega arith)) (omega arith) (omega (arith, p.0, p.1)) (omega (arith, p.0, p.1)) in
    let at = Tallies (c.loop-k.k + 1) row t (unpacked c.if-entry.ws) c.args.tally.now in
    elim c.if-entry.branch [
      | then-entry w ↦ record {
        long = c.if-entry.array_long2;
        tallies = subst at (ap (λ q. set tally q (get_or tally q 0 + 1)) (sym p.0) ∙ sym w.tally-is)
            (next true _ (sym w.if-entry.true ∙ b) (ap unpacked w.ws-is ∙ w.add_row.ensures));
      }
      | else-entry w ↦ record {
        long = c.if-entry.array_long2;
        tallies = subst at (sym w.tally-is) (next false _ (sym w.if-entry.false ∙ b) (ap unpacked w.ws-is ∙ sym (set-get_or (unpacked now) row [])));
      }
    ]
