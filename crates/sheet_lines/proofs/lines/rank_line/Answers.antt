use Rattle.std.proofs.Common.{◌≤◌, arith, length}
use Rattle.buffer.proofs.Appending.{appends_then}
use Rattle.sheet_lines.proofs.lines.rank_line.Goals as goal

pub returns : goal.returns
returns c =
    let inside : c.args.at ≤ length c.args.text.now = omega (arith, c.requires) in
    rw (← c.from.ensures, ← c.from-2.ensures, ← c.from-3.ensures) (
      appends_then inside
          (appends_then inside (appends_then inside (appends_then inside c.append_decimal-set.ensures.appends c.append_field-one.ensures.appends) c.append_field-zero.ensures.appends) c.append_field-end.ensures.appends)
          c.end_line.ensures,
      omega arith,
    )
