-- The counts below d are those of their degrees, and those from d on are 0.
use Rattle.degree_ranks.specs.Cut.{column_count}
use Rattle.degree_ranks.proofs.Degrees.{ValuesTo}
use Rattle.degree_ranks.proofs.column_counts.Given as goal

abbrev pub invariant-loop-d : goal.invariant-loop-d
invariant-loop-d l = ValuesTo (column_count l.order.list l.n) l.d l.columns
