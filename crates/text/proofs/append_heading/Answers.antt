use Rattle.std.proofs.Common.{◌≤◌, arith, length}
use Rattle.buffer.proofs.Appending.{appends_then}
use Rattle.text.proofs.append_heading.Goals as goal

pub returns-clause-appends : goal.returns-clause-appends
returns-clause-appends c =
    let inside : c.args.at ≤ length c.args.text.now = omega (arith, c.requires) in
    appends_then inside (appends_then inside c.append_labelled-of_second.ensures.appends c.append_labelled-of_third.ensures.appends) c.append.ensures
