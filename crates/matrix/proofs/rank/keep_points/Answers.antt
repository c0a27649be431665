-- The elimination is that of the definition (ranked_is), and all its points are marked: each pivot is a column (kept_at_all).
use mathlib.Core.Path.{ap, ◌∙◌}
use native.Mathlib.Omega.{arith}
use lib.ListN.{length, length-map}
use lib.Pow.{pow_mono}
use Rattle.cube.specs.NumberLists.{lists, Inside}
use Rattle.cube.specs.Mask.{points, mask}
use Rattle.order.specs.Order.{columns}
use Rattle.packed.specs.Packed.{unpack, unpacked}
use Rattle.matrix.specs.Workspace.{Eliminates}
use Rattle.matrix.specs.Kept.{KeptAt}
use Rattle.matrix.proofs.KeptPoints.{kept_at_all, kept_at_small}
use Rattle.matrix.proofs.Ranked.{ranked_is, kept_is}
use Rattle.matrix.proofs.rank.keep_points.Goals as goal

pub mark_below-requires : goal.mark_below-requires
mark_below-requires c =
    let ps = points c.args.mask.now in
    let h = c.eliminate-t.ensures in
    let small : Inside 512 ps = λ a m. omega (arith, c.requires.2 a m, pow_mono c.requires.0) in
    (h.bounds.0, kept_at_small (unpacked c.args.ws.now) _ ps c.eliminate-t.result.kept c.eliminate-t.new.points h.kept_at (omega (arith, h.bounds.0)) small)

pub returns : goal.returns
returns c =
    let ws = c.args.ws.now in
    let t = unpacked ws in
    let n = c.args.n in
    let d = c.args.d in
    let order = c.args.order.now in
    let ps = points c.args.mask.now in
    let r = c.eliminate-t.result in
    let h = c.eliminate-t.ensures in
    let ws' = c.eliminate-t.new.ws in
    let t' = unpacked ws' in
    let qs = c.eliminate-t.new.points in
    let taken : Eliminates t t' (length (columns order.list n d)) ps r.kept r.additions = rw c.column_count-columns.ensures at h.eliminates in
    let kept : KeptAt t (length (columns order.list n d)) ps r.kept qs = rw c.column_count-columns.ensures at h.kept_at in
    record {
      ranked = ranked_is order.graded n d c.requires.0 c.requires.1 t c.requires.3 ps c.requires.2 t' r.kept r.additions taken (length-map ws' unpack ∙ c.eliminate-t.array_long) h.bounds.0;
      kept_marked = c.mark_below.ensures
          ∙ ap (λ x. mask (lists x)) (kept_at_all t' r.kept c.eliminate-t.new.pivots qs h.pivots (omega (arith, h.bounds.0)) (omega (arith, h.bounds.0)))
          ∙ kept_is order.graded n d c.requires.0 c.requires.1 t c.requires.3 ps c.requires.2 r.kept qs kept;
      point_rows_stay = taken.stays;
    }
