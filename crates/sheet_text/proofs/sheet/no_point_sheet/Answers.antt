-- The lines are written one behind the other (appends_then), each within its room.
use Prim.Native.Nat.{zero-le}
use native.Mathlib.Omega.{arith}
use Rattle.buffer.proofs.Appending.{appends_then}
use Rattle.sheet_text.proofs.sheet.no_point_sheet.Goals as goal

pub first_line-first-requires : goal.first_line-first-requires
first_line-first-requires c = omega (arith, c.requires.0)

pub rank_lines-report-requires : goal.rank_lines-report-requires
rank_lines-report-requires c =
    (omega (arith, c.first_line-first.ensures.1, c.first_line-first.auto.text, c.requires.0), c.requires.1)

pub no_degree_line-sides-requires : goal.no_degree_line-sides-requires
no_degree_line-sides-requires c =
    omega (arith, c.rank_lines-report.ensures.1, c.rank_lines-report.auto.text, c.first_line-first.ensures.1, c.first_line-first.auto.text, c.requires.0)

pub sides_line-end-requires : goal.sides_line-end-requires
sides_line-end-requires c =
    omega (arith, c.no_degree_line-sides.ensures.1, c.no_degree_line-sides.auto.text, c.rank_lines-report.ensures.1, c.rank_lines-report.auto.text, c.first_line-first.ensures.1, c.first_line-first.auto.text, c.requires.0)

pub additions_line-requires : goal.additions_line-requires
additions_line-requires c =
    omega (arith, c.sides_line-end.ensures.1, c.sides_line-end.auto.text, c.no_degree_line-sides.ensures.1, c.no_degree_line-sides.auto.text, c.rank_lines-report.ensures.1, c.rank_lines-report.auto.text, c.first_line-first.ensures.1, c.first_line-first.auto.text, c.requires.0)

pub returns : goal.returns
returns c =
    appends_then zero-le
    (appends_then zero-le (appends_then zero-le (appends_then zero-le c.first_line-first.ensures.0 c.rank_lines-report.ensures.0) c.no_degree_line-sides.ensures.0) c.sides_line-end.ensures.0)
    c.additions_line.ensures.0
