-- The loop's invariant: the rows are those of reduced_both by the first i rows; both_next is a turn, with both additions or with neither.
use mathlib.Core.Path.{◌≡◌, refl, sym, ap, ◌∙◌}
use mathlib.Core.Bool.{Bool, true, false}
use mathlib.Core.List.{List, []}
use Prim.Native.Nat.{ℕ}
use native.Mathlib.Omega.{arith}
use lib.ListN.{length, length-map, length-set}
use lib.Seq.{set-get_or}
use Rattle.gf2.specs.Vector.{Row}
use Rattle.gf2.specs.Elimination.{add_if}
use Rattle.gf2.specs.Steps.{reduced_both}
use Rattle.gf2.proofs.BothRows.{both_none, both_next}
use Rattle.packed.specs.Packed.{unpacked}
use Rattle.packed.proofs.Rows.{entry_at}
use Rattle.packed.proofs.basis.reduce_both.Goals as goal
use Rattle.packed.proofs.basis.reduce_both.Goals.{else-entry, then-entry}

-- the workspace is as long as before
length_both : (ws ws' : List (List ℕ)) (k row sum : ℕ) (places : List ℕ)
    → unpacked ws' ≡ reduced_both k row sum places (unpacked ws) → length ws' ≡ length ws
unfolding reduced_both
length_both ws ws' k row sum places e = simp (length-set, length-map) at (ap length e)

pub loop-i-init : goal.loop-i-init
loop-i-init c = sym (both_none c.args.row c.args.sum c.args.places.now (unpacked c.args.ws.now))

pub loop-i-preserved : goal.loop-i-preserved
unfolding add_if
loop-i-preserved c =
    let row = c.args.row in
    let sum = c.args.sum in
    let now = c.loop-i.ws in
    let long = length_both c.args.ws.now now c.loop-i.i row sum c.args.places.now c.loop-i.invariant in
    let rows : length (unpacked c.args.ws.now) ≡ 1024 = rw length-map c.told-ws in
    let place = c.requires.5 c.loop-i.i (omega arith) in
    let b = entry_at now row _ _ c.entry.result (omega arith) c.entry.ensures (c.requires.4 c.loop-i.i (omega arith)).0 in
    let next = λ (bit : Bool) (t' t'' : List Row). both_next row sum c.args.places.now (unpacked c.args.ws.now) c.loop-i.i bit _ (unpacked now) t' t''
    (omega arith) (omega arith) (omega arith) (omega arith) (omega arith) (omega arith) refl (omega (arith, place.0)) place.2 c.loop-i.invariant in
    elim c.if-entry.branch [
      | then-entry w ↦ ap unpacked w.ws-is ∙ next true _ _ (sym w.if-entry.true ∙ b) w.add_row.ensures w.add_row-then-entry.ensures
      | else-entry w ↦ ap unpacked w.ws-is ∙ next false _ _ (sym w.if-entry.false ∙ b) (sym (set-get_or (unpacked now) row [])) (sym (set-get_or (unpacked now) sum []))
    ]
