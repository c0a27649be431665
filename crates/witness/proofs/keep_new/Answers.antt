-- The loop's invariant, Tried: nothing was left of the rows of the points below a, and the kept rows stay; each turn is a law of NewRow.antt.
use native.Mathlib.Omega.{arith}
use lib.ListN.{length-map}
use Rattle.packed.specs.Packed.{unpacked}
use Rattle.matrix.proofs.Taking.{takes_from}
use Rattle.witness.proofs.NewRow.{tried_other, tried_zero, tried_new, tried_all}
use Rattle.witness.proofs.keep_new.Goals as goal
use Rattle.witness.proofs.keep_new.Goals.{else-byte-eq1, then-byte-eq1+else-kept-t}

pub returns-then-kept-t-clause-finds_new : goal.returns-then-kept-t-clause-finds_new
returns-then-kept-t-clause-finds_new c =
    let ws = c.args.ws.now in
    let ws' = c.take_row-t.new.ws in
    tried_new (unpacked ws) c.args.kept c.args.columns c.args.set.now (unpacked c.loop-a.ws) c.loop-a.a c.loop-a.invariant.tried
    (unpacked ws') c.take_row-t.result.kept c.take_row-t.result.additions (simp length-map (omega arith)) (simp length-map (omega arith)) c.requires.0
    (omega arith) c.if-byte-eq1.true (takes_from _ _ _ _ _ _ c.row_of.ensures c.take_row-t.ensures.takes) c.if-kept-t.true

pub loop-a-preserved : goal.loop-a-preserved
loop-a-preserved c =
    let ws = c.args.ws.now in
    let i = c.loop-a.invariant in
    elim c.if-byte-eq1.branch [
      | then-byte-eq1+else-kept-t w ↦
          let r = w.take_row-t.result in
          let ws' = w.take_row-t.new.ws in
          let z = tried_zero (unpacked ws) c.args.kept c.args.columns c.args.set.now (unpacked c.loop-a.ws) c.loop-a.a i.tried
          (unpacked ws') r.kept r.additions (simp length-map (omega arith)) (simp length-map (omega arith)) c.requires.0 (omega arith) w.if-byte-eq1.true
          (takes_from _ _ _ _ _ _ w.row_of.ensures w.take_row-t.ensures.takes) w.if-kept-t.false in record {
            pivots = rw (w.ws-is, w.pivots-is, ← z.0) w.take_row-t.ensures.pivots;
            tried = rw w.ws-is z.1;
          }
      | else-byte-eq1 w ↦ record {
        pivots = rw (w.ws-is, w.pivots-is) i.pivots;
        tried = rw w.ws-is (tried_other (unpacked ws) c.args.kept c.args.columns c.args.set.now (unpacked c.loop-a.ws) c.loop-a.a i.tried (omega arith) w.if-byte-eq1.false);
      }
    ]

pub returns-clause-finds_new : goal.returns-clause-finds_new
returns-clause-finds_new c =
    tried_all (unpacked c.args.ws.now) c.args.kept c.args.columns c.args.set.now (unpacked c.loop-a.ws) c.loop-a.a c.loop-a.invariant.tried (omega arith)
