use mathlib.Core.Path.{ap, ◌∙◌}
use Rattle.std.proofs.lemmas.List.{map-set}
use lib.ListN.{set}
use Rattle.gf2.specs.Cut.{zero_row}
use Rattle.packed.specs.Packed.{unpack, unpacked}
use Rattle.packed.proofs.Words.{unpack_zero}
use Rattle.packed.proofs.workspace.clear_row.Goals as goal

pub returns : goal.returns
unfolding zero_row
returns c = map-set unpack c.args.ws.now c.args.row _ ∙ ap (set (unpacked c.args.ws.now) c.args.row) unpack_zero
