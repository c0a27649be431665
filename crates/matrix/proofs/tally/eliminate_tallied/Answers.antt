-- Each turn is a law of Tallied.antt and of KeptPoints.antt.
use mathlib.Core.Path.{◌≡◌, sym, ◌∙◌}
use Prim.Native.Nat.{◌+◌}
use native.Mathlib.Omega.{arith}
use lib.ListN.{length, length-map}
use borrow.Author.Tests.{eq-eqb, ne_eqb}
use Rattle.packed.specs.Packed.{unpack, unpacked}
use Rattle.packed.proofs.Rows.{length_row}
use Rattle.packed.proofs.Tally.{few_zeros}
use Rattle.matrix.specs.Workspace.{EliminatesAll}
use Rattle.matrix.proofs.Taking.{points_to}
use Rattle.matrix.proofs.Tallied.{eliminates_all_none, eliminates_all_yes, eliminates_all_no}
use Rattle.matrix.proofs.KeptPoints.{kept_at_none, kept_at_yes, kept_at_no, rows_before, whole_count}
use Rattle.matrix.proofs.tally.eliminate_tallied.Goals as goal
use Rattle.matrix.proofs.tally.eliminate_tallied.Goals.{else-byte-eq1, then-byte-eq1}

pub loop-a-init : goal.loop-a-init
loop-a-init c =
    let t = unpacked c.args.ws.now in
    let b = c.args.mask.now in
    record {
      at_most = omega arith;
      few = rw c.requires (few_zeros 512 _);
      pivots = λ j h. absurd (omega arith);
      eliminates = rw c.requires (eliminates_all_none t b 512);
      kept_at = kept_at_none t 512 b c.args.points.now;
    }

pub loop-a-preserved : goal.loop-a-preserved
loop-a-preserved c =
    let t = unpacked c.args.ws.now in
    let b = c.args.mask.now in
    let a = c.loop-a.a in
    let i = c.loop-a.invariant in
    let long : length t ≡ 1024 = length-map c.args.ws.now unpack ∙ c.told-ws in
    elim c.if-byte-eq1.branch [
      | then-byte-eq1 w ↦ let r = w.take_tallied-kept in
          let ws = c.loop-a.ws in
          let ws' = r.new.ws in
          let taken = r.ensures.takes_all in
          let marked = eq-eqb _ _ w.if-byte-eq1.true in
          let e : EliminatesAll t (unpacked ws') (points_to b (a + 1)) r.result r.new.tally =
          eliminates_all_yes t b (unpacked ws) (unpacked ws') a c.loop-a.kept r.result c.loop-a.tally r.new.tally i.eliminates marked taken in
          let before = whole_count t (unpacked ws) (points_to b a) c.loop-a.kept c.loop-a.tally c.loop-a.pivots i.eliminates (length_row ws) (omega (arith, rows_before t (unpacked ws) i.eliminates.stays long)) i.pivots in
          let after = whole_count t (unpacked ws') (points_to b (a + 1)) r.result r.new.tally r.new.pivots e (length_row ws') (omega (arith, length-map ws' unpack, taken.grows)) r.ensures.pivots in
          rw (w.ws-is, w.pivots-is, w.points-is, w.tally-is, w.kept-is) (record {
            at_most = omega (arith, taken.grows);
            few = λ x. omega (arith, taken.few x, i.few x);
            pivots = r.ensures.pivots;
            eliminates = e;
            kept_at = kept_at_yes t 512 b a c.loop-a.kept r.result c.loop-a.points marked (omega arith) before after i.kept_at;
          })
      | else-byte-eq1 w ↦ rw (w.ws-is, w.pivots-is, w.points-is, w.tally-is, w.kept-is) (record {
        at_most = omega arith;
        few = λ x. omega (arith, i.few x);
        pivots = i.pivots;
        eliminates = eliminates_all_no t b (unpacked c.loop-a.ws) a c.loop-a.kept c.loop-a.tally i.eliminates (ne_eqb _ _ w.if-byte-eq1.false);
        kept_at = kept_at_no t 512 b a c.loop-a.kept c.loop-a.points (ne_eqb _ _ w.if-byte-eq1.false) i.kept_at;
      })
    ]

pub returns : goal.returns
returns c =
    let i = c.loop-a.invariant in
    let e : c.loop-a.a ≡ length c.args.mask.now = omega arith in
    rw (sym e) (record {
      eliminates_all = i.eliminates;
      bounds = (omega arith, λ x. omega (arith, i.few x));
      pivots = i.pivots;
      kept_at = i.kept_at;
    })
