-- Each turn is a law of Taking.antt and of KeptPoints.antt.
use mathlib.Core.Path.{◌≡◌, sym, ◌∙◌}
use Prim.Native.Nat.{◌+◌}
use native.Mathlib.Omega.{arith}
use lib.ListN.{length, length-map}
use borrow.Author.Tests.{eq-eqb, ne_eqb}
use Rattle.packed.specs.Packed.{unpack, unpacked}
use Rattle.matrix.specs.Workspace.{Eliminates}
use Rattle.matrix.proofs.Taking.{takes_from, points_to, eliminates_none, eliminates_yes, eliminates_no}
use Rattle.matrix.proofs.KeptPoints.{kept_at_none, kept_at_yes, kept_at_no, taken_count}
use Rattle.matrix.proofs.elimination.eliminate.Goals as goal
use Rattle.matrix.proofs.elimination.eliminate.Goals.{else-byte-eq1, then-byte-eq1}

pub loop-a-init : goal.loop-a-init
loop-a-init c =
    let t = unpacked c.args.ws.now in
    let b = c.args.mask.now in
    record {
      at_most = omega arith;
      few = omega arith;
      pivots = λ j h. absurd (omega arith);
      eliminates = eliminates_none t c.args.columns b;
      kept_at = kept_at_none t c.args.columns b c.args.points.now;
    }

pub loop-a-preserved : goal.loop-a-preserved
loop-a-preserved c =
    let t = unpacked c.args.ws.now in
    let columns = c.args.columns in
    let b = c.args.mask.now in
    let a = c.loop-a.a in
    let i = c.loop-a.invariant in
    let long : length t ≡ 1024 = length-map c.args.ws.now unpack ∙ c.told-ws in
    elim c.if-byte-eq1.branch [
      | then-byte-eq1 w ↦ let r = w.take_row-t.result in
          let ws = c.loop-a.ws in
          let ws' = w.take_row-t.new.ws in
          let taken = w.take_row-t.ensures.takes in
          let marked = eq-eqb _ _ w.if-byte-eq1.true in
          let e : Eliminates t (unpacked ws') columns (points_to b (a + 1)) r.kept (c.loop-a.additions + r.additions) =
          eliminates_yes t columns b (unpacked ws) (unpacked ws') a c.loop-a.kept c.loop-a.additions r.kept r.additions
          i.eliminates marked (takes_from _ _ _ _ _ _ w.row_of.ensures taken) in
          let before = taken_count t (unpacked ws) columns (points_to b a) c.loop-a.kept c.loop-a.additions i.eliminates long (omega arith) in
          let after = taken_count t (unpacked ws') columns (points_to b (a + 1)) r.kept (c.loop-a.additions + r.additions) e long (omega (arith, taken.grows)) in
          rw (w.ws-is, w.pivots-is, w.points-is, w.kept-is, w.additions-is) (record {
            at_most = omega (arith, taken.grows);
            few = omega (arith, taken.few);
            pivots = w.take_row-t.ensures.pivots;
            eliminates = e;
            kept_at = kept_at_yes t columns b a c.loop-a.kept r.kept c.loop-a.points marked (omega arith) before after i.kept_at;
          })
      | else-byte-eq1 w ↦ rw (w.ws-is, w.pivots-is, w.points-is, w.kept-is, w.additions-is) (record {
        at_most = omega arith;
        few = omega arith;
        pivots = i.pivots;
        eliminates = eliminates_no t columns b (unpacked c.loop-a.ws) a c.loop-a.kept c.loop-a.additions i.eliminates (ne_eqb _ _ w.if-byte-eq1.false);
        kept_at = kept_at_no t columns b a c.loop-a.kept c.loop-a.points (ne_eqb _ _ w.if-byte-eq1.false) i.kept_at;
      })
    ]

pub returns : goal.returns
returns c =
    let i = c.loop-a.invariant in
    let e : c.loop-a.a ≡ length c.args.mask.now = omega arith in
    rw (sym e) (record { eliminates = i.eliminates; bounds = omega arith; pivots = i.pivots; kept_at = i.kept_at })
