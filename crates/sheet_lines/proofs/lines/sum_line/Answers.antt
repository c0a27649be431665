use Prim.Native.Nat.{◌≤◌}
use native.Mathlib.Omega.{arith}
use lib.ListN.{length}
use Rattle.buffer.proofs.Appending.{appends_then}
use Rattle.text.specs.Text.{ascii}
use Rattle.sheet_lines.proofs.lines.sum_line.Goals as goal

pub returns : goal.returns
unfolding ascii
returns c =
    let inside : c.args.at ≤ length c.args.text.now = omega (arith, c.requires) in
    rw (← c.from.ensures, ← c.from-2.ensures) (appends_then inside (appends_then inside c.append_heading-named.ensures.appends c.sum_fields-end.ensures.0) c.end_line.ensures, omega arith)
