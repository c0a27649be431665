-- At the end the bytes that are 1 are counted, and as many numbers are marked (marked_count).
use mathlib.Core.Path.{sym, ap, ◌∙◌}
use native.Mathlib.Omega.{arith}
use lib.Dec.{eqb}
use lib.Seq.{take_all}
use Rattle.std.specs.List.{count_by}
use Rattle.cube.proofs.Masks.{marked_count, marked_few}
use Rattle.cube.proofs.mask.count.Goals as goal

pub returns : goal.returns
returns c =
    let b = c.args.mask.now in
    let counted = c.loop-byte.invariant ∙ ap (count_by (λ x. eqb x 1)) (take_all c.loop-byte.byte-index b (omega arith)) ∙ sym (marked_count b) in
    (counted, omega (arith, counted, marked_few b))
