use mathlib.Core.Path.{refl}
use Rattle.order.specs.BuiltIn.{graded}
use Rattle.order.proofs.BuiltIn.{graded_is_graded}
use Rattle.order.proofs.graded_order.Goals as goal

-- the table is what the definition computes
pub returns : goal.returns
unfolding graded
returns c = refl

pub invariant_of-result : goal.invariant_of-result
unfolding graded
invariant_of-result c = record { graded = graded_is_graded }
