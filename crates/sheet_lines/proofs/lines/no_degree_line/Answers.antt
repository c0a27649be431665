use native.Mathlib.Omega.{arith}
use Rattle.buffer.proofs.Appending.{appends_then}
use Rattle.text.specs.Text.{ascii}
use Rattle.sheet_lines.proofs.lines.no_degree_line.Goals as goal

pub returns : goal.returns
unfolding ascii
returns c =
    (appends_then (omega arith) c.append-end.ensures c.end_line.ensures, omega arith)
