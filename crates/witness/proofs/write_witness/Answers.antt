-- The part is eliminated, then the set searched for a new row; the three ends are the laws written_full, written_none and written_new of Written.antt.
use mathlib.Core.Path.{◌∙◌}
use native.Mathlib.Omega.{arith}
use lib.ListN.{length-map}
use Rattle.cube.specs.Mask.{points}
use Rattle.packed.specs.Packed.{unpacked, zeros}
use Rattle.witness.proofs.Written.{KeptOf, kept_of, written_full, written_none, written_new}
use Rattle.witness.proofs.write_witness.Goals as goal
use Rattle.witness.proofs.write_witness.Goals.{After-eliminate-t}

-- the rows kept of the part, and the rows of the points
eliminated : (e : After-eliminate-t) → let a = e.args in
    KeptOf a.order.now.list a.n a.d e.column_count-columns.result (points a.part.now) (unpacked e.eliminate-t.new.ws) e.eliminate-t.result.kept
eliminated e =
    let a = e.args in
    kept_of a.order.now.graded a.n a.d e.requires.0 e.requires.1 (points a.part.now) e.requires.3 (unpacked a.ws.now) e.requires.4
    e.column_count-columns.result e.column_count-columns.ensures (unpacked e.eliminate-t.new.ws) (simp length-map (omega arith))
    e.eliminate-t.result.kept e.eliminate-t.result.additions e.eliminate-t.ensures.bounds.0 e.eliminate-t.ensures.eliminates

pub returns-then-kept-keep_new-clause-witness_written : goal.returns-then-kept-keep_new-clause-witness_written
unfolding zeros
returns-then-kept-keep_new-clause-witness_written c =
    let a = c.args in
    c.mark_columns.ensures
    ∙ written_new a.order.now.graded a.n a.d (points a.set.now) (points a.part.now) _ c.requires.2 _ _ (eliminated (goal.at.returns-then-kept-keep_new-clause-witness_written c).After-eliminate-t)
    (unpacked c.keep_new.new.ws) _ c.keep_new.ensures.finds_new (simp length-map (omega arith)) c.if-kept-keep_new.true _ c.solve_last-x.ensures

pub returns-else-kept-keep_new-clause-witness_written : goal.returns-else-kept-keep_new-clause-witness_written
unfolding zeros
returns-else-kept-keep_new-clause-witness_written c =
    let a = c.args in
    written_none a.order.now.graded a.n a.d (points a.set.now) (points a.part.now) _ c.requires.2 _ _ (eliminated (goal.at.returns-else-kept-keep_new-clause-witness_written c).After-eliminate-t)
    (unpacked c.keep_new.new.ws) _ c.keep_new.ensures.finds_new (simp length-map (omega arith)) c.if-kept-keep_new.false

pub returns-else-kept-lt-COLUMNS-clause-witness_written : goal.returns-else-kept-lt-COLUMNS-clause-witness_written
unfolding zeros
returns-else-kept-lt-COLUMNS-clause-witness_written c =
    let a = c.args in
    written_full a.order.now.graded a.n a.d (points a.set.now) (points a.part.now) _ c.requires.2 _ _ (eliminated (goal.at.returns-else-kept-lt-COLUMNS-clause-witness_written c).After-eliminate-t)
    c.if-kept-lt-COLUMNS.false
