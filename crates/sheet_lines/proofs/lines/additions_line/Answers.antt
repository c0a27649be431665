use Rattle.std.proofs.Common.{arith}
use Rattle.buffer.proofs.Appending.{appends_then}
use Rattle.text.specs.Text.{ascii}
use Rattle.sheet_lines.proofs.lines.additions_line.Goals as goal

pub returns : goal.returns
unfolding ascii
returns c = rw (← c.from.ensures) (appends_then (omega arith) c.append_labelled-end.ensures.appends c.end_line.ensures, omega arith)
