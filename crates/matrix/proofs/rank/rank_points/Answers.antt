use mathlib.Core.Path.{◌≡◌, sym, ap, ◌∙◌}
use native.Mathlib.Omega.{arith}
use Rattle.std.proofs.Common.{rules}
use lib.ListN.{length, length-map}
use Rattle.cube.proofs.Masks.{points_inside}
use Rattle.packed.specs.Packed.{unpack, unpacked, zeros}
use Rattle.point_rows.specs.Workspace.{exponents}
use Rattle.point_rows.proofs.Stored.{filled_rows}
use Rattle.matrix.proofs.rank.rank_points.Goals as goal

pub keep_points-ranked-requires : goal.keep_points-ranked-requires
keep_points-ranked-requires c =
    let n = c.args.n in
    let ws = c.rows-ws.result.now in
    let mask : c.unwrap-mask.result.now ≡ c.args.mask.now = search rules in (
      c.requires.3,
      c.requires.4,
      rw mask (points_inside n c.args.mask.now c.requires.5),
      rw c.fill_rows.ensures (filled_rows (exponents c.args.order.now.list n) n c.requires.3 (unpacked ws) (length-map ws unpack ∙ c.rows-ws.ensures.long)),
    )

-- the workspace has its length still, and is filled with zeros
pub returns-clause-workspace_cleared : goal.returns-clause-workspace_cleared
unfolding zeros
returns-clause-workspace_cleared c =
    let long : length c.fill.new.self ≡ length c.args.workspace.now = omega arith in
    c.fill.ensures.after (λ y e. e) ∙ ap zeros (sym c.fill.ensures.len ∙ long)
