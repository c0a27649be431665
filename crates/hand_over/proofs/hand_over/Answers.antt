use mathlib.Core.Path.{sym}
use native.Mathlib.Omega.{arith}
use lib.Seq.{length-take-le}
use borrow.Author.Tests.{eq-eqb, ne_eqb}
use Rattle.hand_over.proofs.hand_over.Goals as goal

pub slice_bounds-result-end : goal.slice_bounds-result-end
slice_bounds-result-end c = sym (length-take-le _ _ (omega arith))

pub returns-then-side-eq1 : goal.returns-then-side-eq1
returns-then-side-eq1 c =
    record { answers = rw (c.part_length-points.ensures.0, eq-eqb c.args.side 1 c.if-side-eq1.true) }

pub slice_bounds-result-end-2 : goal.slice_bounds-result-end-2
slice_bounds-result-end-2 c = sym (length-take-le _ _ (omega arith))

pub returns : goal.returns
returns c = record { answers = rw (c.part_length-points.ensures.0, ne_eqb _ _ c.if-side-eq1.false) }
