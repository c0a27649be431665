-- The first call leaves the rows of points in their places, so the workspace is ready for the second (ready_after).
use Rattle.std.proofs.Common.{rules}
use Rattle.degree_ranks.proofs.Ready.{ready_after}
use Rattle.judge.proofs.write_witnesses.Goals as goal

pub write_side-requires-2 : goal.write_side-requires-2
write_side-requires-2 c =
    let ready = ready_after c.write_side.new.ws c.write_side.ensures.point_rows_stay c.requires.0 in
    search rules
