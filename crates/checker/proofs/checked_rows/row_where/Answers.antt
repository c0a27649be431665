use Rattle.std.proofs.Common.{arith, true, false, ap, ◌∙◌}
use Rattle.std.proofs.lemmas.List.{get_or-replicate}
use borrow.Author.Count.{below_none, below_more}
use Rattle.gf2.specs.Vector.{entry}
use Rattle.gf2.proofs.Bits.{false_xor}
use Rattle.gf2.proofs.BackSubstitution.{flip_same, flip_other}
use Rattle.packed.specs.Packed.{unpack}
use Rattle.packed.proofs.Words.{unpack_zero}
use Rattle.checker.proofs.checked_rows.row_where.Goals as goal
use Rattle.checker.proofs.checked_rows.row_where.Goals.{then-passes, else-passes}

pub loop-c-init : goal.loop-c-init
loop-c-init g c = record { told = below_none _; left = λ k h l. ap (λ v. entry v k) unpack_zero ∙ get_or-replicate 512 k false false l }

pub loop-c-preserved : goal.loop-c-preserved
loop-c-preserved g c =
    let i = c.loop-c in
    let none = i.invariant.left i.c (omega arith) (omega arith) in
    elim c.if-passes.branch [
      | then-passes w ↦ rw (w.row-is, w.flip_column.ensures) (record {
        told = below_more _ i.c (λ k h. rw (flip_other true (unpack i.row) i.c k (λ e. absurd (omega arith))) (i.invariant.told k h)) (rw (flip_same true (unpack i.row) i.c, none, false_xor) (rw w.if-passes.true at c.passes.ensures));
        left = λ k h l. flip_other true (unpack i.row) i.c k (λ e. absurd (omega arith)) ∙ i.invariant.left k (omega arith) l;
      })
      | else-passes w ↦ rw w.row-is (record {
        told = below_more _ i.c i.invariant.told (rw none (rw w.if-passes.false at c.passes.ensures));
        left = λ k h l. i.invariant.left k (omega arith) l;
      })
    ]
