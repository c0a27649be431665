use mathlib.Core.Path.{ap, ◌∙◌}
use Rattle.gf2.specs.Elimination.{is_zero}
use Rattle.packed.specs.Packed.{unpack}
use Rattle.gf2.proofs.Common.{common_self}
use Rattle.packed.proofs.row.is_zero.Goals as goal

pub returns : goal.returns
returns c = c.disjoint.ensures ∙ ap is_zero (common_self (unpack c.args.x.now))
