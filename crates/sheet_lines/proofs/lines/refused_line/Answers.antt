use Rattle.std.proofs.Common.{ap, arith}
use Rattle.buffer.proofs.Appending.{appends_then, appends_same}
use Rattle.text.specs.Text.{ascii}
use Rattle.sheet_lines.specs.Lines.{refused_line}
use Rattle.sheet_lines.proofs.lines.refused_line.Goals as goal

pub returns : goal.returns
unfolding ascii
returns c = appends_same (ap refused_line c.from.ensures) (appends_then (omega arith) c.append_labelled-end.ensures.appends c.end_line.ensures)
