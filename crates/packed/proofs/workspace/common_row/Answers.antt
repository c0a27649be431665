use native.Mathlib.Omega.{arith}
use Rattle.std.proofs.lemmas.List.{map-set}
use Rattle.packed.proofs.Rows.{row_at}
use Rattle.packed.proofs.workspace.common_row.Goals as goal

pub returns : goal.returns
returns c = simp (map-set, row_at c.args.ws.now c.args.p (omega arith), row_at c.args.ws.now c.args.q (omega arith), c.common.ensures)
