use Rattle.std.proofs.Common.{arith}
use Rattle.text.specs.Text.{ascii}
use Rattle.sheet_lines.proofs.lines.degree_field.Goals as goal

pub returns-in-None : goal.returns-in-None
unfolding ascii
returns-in-None c = rw c.in-None.is (c.append.ensures, omega (arith, c.append.ensures.upto))
