use Rattle.std.proofs.Common.{rules, false}
use mathlib.Core.Bool.{not}
use Rattle.cube.specs.Mask.{member}
use Rattle.cube.proofs.Masks.{values_told}
use Rattle.packed.proofs.Words.{length_unpack}
use Rattle.checker.proofs.checked_rows.others_row.Goals as goal

pub returns : goal.returns
returns c = values_told (λ p. not (member c.args.part.now p)) 512 false _ (length_unpack c.row_where.result) (λ p h. let told = c.row_where.ensures p h in search rules)
