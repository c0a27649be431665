-- One line more (appends_next).
use Rattle.std.proofs.Common.{◌<◌, ◌+◌, ap, arith, get_or-take, length-take}
use Rattle.cube.specs.NumberLists.{up_from, below}
use Rattle.cube.proofs.Masks.{below_snoc}
use Rattle.immunity.specs.Ranks.{no_ranks}
use Rattle.buffer.proofs.Appending.{appends_none, appends_same}
use Rattle.text.specs.Text.{joined}
use Rattle.text.proofs.Joined.{appends_next}
use Rattle.sheet_lines.specs.Lines.{rank_line}
use Rattle.sheet_lines.proofs.lines.rank_lines.Invariants.{line_of}
use Rattle.sheet_lines.proofs.lines.rank_lines.Goals as goal

pub loop-d-init : goal.loop-d-init
unfolding joined up_from
loop-d-init c = (omega arith, appends_none c.args.text.now c.args.at)

pub loop-d-preserved : goal.loop-d-preserved
loop-d-preserved c =
    let d = c.loop-d.d in
    let i = c.loop-d.invariant in
    let low : d < c.args.n + 1 = omega (arith, length-take (c.args.n + 1) c.args.ranks) in (
      omega (arith, c.rank_line-place.ensures.1),
      appends_next (line_of c.args.ranks) (below d) (below (d + 1)) d (omega arith) (below_snoc d) i.1
          (appends_same (ap (rank_line d) (get_or-take (c.args.n + 1) c.args.ranks d no_ranks low)) c.rank_line-place.ensures.0),
    )
