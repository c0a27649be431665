use Prim.Native.Nat.{◌≤◌}
use native.Mathlib.Omega.{arith}
use lib.ListN.{length}
use Rattle.buffer.proofs.Appending.{appends_then}
use Rattle.text.specs.Text.{ascii}
use Rattle.sheet_lines.proofs.lines.sides_line.Goals as goal

pub returns : goal.returns
unfolding ascii
returns c =
    let inside : c.args.at ≤ length c.args.text.now = omega (arith, c.requires) in (
      appends_then inside (appends_then inside (appends_then inside c.append-of_one.ensures c.degree_field-of_zero.ensures.0) c.degree_field-end.ensures.0) c.end_line.ensures,
      omega arith,
    )
