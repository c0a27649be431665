use native.Mathlib.Omega.{arith}
use Rattle.packed.proofs.Rows.{row_at}
use Rattle.packed.proofs.basis.keep.Goals as goal

pub returns-in-Some-clause-value : goal.returns-in-Some-clause-value
returns-in-Some-clause-value c = (rw (row_at c.args.ws.now c.args.kept (omega arith), c.in-Some.ensures.2), omega arith)
