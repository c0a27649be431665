-- Each turn writes the count of one degree more (next).
use Prim.Native.Nat.{◌+◌, ◌≤◌}
use native.Mathlib.Omega.{arith}
use lib.ListN.{set}
use Rattle.order.proofs.DegreeColumns.{length_columns}
use Rattle.degree_ranks.specs.Cut.{column_count}
use Rattle.degree_ranks.proofs.Degrees.{ValuesTo, values_none, values_next, values_all}
use Rattle.degree_ranks.proofs.column_counts.Goals as goal
use Rattle.degree_ranks.proofs.column_counts.Goals.{After-column_count}

pub loop-d-init : goal.loop-d-init
loop-d-init c = values_none _

pub overflow_cast-columns : goal.overflow_cast-columns
overflow_cast-columns c = let few : c.column_count.result ≤ 512 = rw c.column_count.ensures (length_columns c.args.order.now.graded _ _) in omega arith

-- one degree more is counted
next : (c : After-column_count) → ValuesTo (column_count c.args.order.now.list c.args.n) (c.loop-d.d + 1) (set c.loop-d.columns c.loop-d.d c.column_count.result)
next c = values_next _ c.loop-d.d c.loop-d.columns _ (omega arith) c.column_count.ensures c.loop-d.invariant

pub loop-d-preserved : goal.loop-d-preserved
loop-d-preserved c = next (goal.at.loop-d-preserved c).After-column_count

pub returns-2 : goal.returns-2
returns-2 c = values_all _ c.args.n c.loop-d.d _ (omega arith) (next (goal.at.returns-2 c).After-column_count)
