use Rattle.std.proofs.Common.{arith, sym, ◌∙◌}
use Rattle.cube.proofs.AllBelow.{all_says, all_wrong}
use Rattle.checker.proofs.checked_rows.rows_right.Goals as goal

pub returns-then-not-row_right : goal.returns-then-not-row_right
returns-then-not-row_right c = sym (all_wrong 512 c.loop-a.a _ (omega arith) (sym c.row_right.ensures ∙ c.if-not-row_right.true))

pub returns : goal.returns
returns c = sym ((all_says 512 _).1 (λ b h. c.loop-a.invariant b (omega arith)))
