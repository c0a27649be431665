-- The loop's invariant: the bytes below a are those at the old points, and the others 0 (Fills); at the end it is all of the gathered mask (fills_all).
use mathlib.Core.Path.{◌≡◌, sym}
use Prim.Native.Nat.{◌≤◌, ◌<◌}
use native.Mathlib.Omega.{arith}
use lib.ListN.{get_or}
use lib.Pow.{pow_mono}
use Rattle.cube.specs.Cube.{size}
use Rattle.cube.specs.Mask.{member}
use Rattle.cube.proofs.Masks.{byte_small, byte_member}
use Rattle.cube.proofs.Filled.{fills_none, fills_next, fills_all}
use Rattle.rearrange.specs.OldPoints.{gathered}
use Rattle.rearrange.proofs.gather.Goals as goal
use Rattle.rearrange.proofs.gather.Goals.{After-size-points, In-loop-a}

-- the number of points
sized : (c : After-size-points) → (c.size-points.result ≡ size c.args.n) × (size c.args.n ≤ 512)
sized c = (c.size-points.ensures.0 (omega (arith, c.requires.0)), pow_mono c.requires.0)

-- in a turn the point is below 512
near : (c : In-loop-a) → ((c.size-points.result ≡ size c.args.n) × (size c.args.n ≤ 512)) → c.loop-a.a < 512
near c sized = omega (arith, sized.0, sized.1)

pub loop-a-init : goal.loop-a-init
loop-a-init c = fills_none _

pub loop-a-preserved : goal.loop-a-preserved
loop-a-preserved c =
    let a = c.loop-a.a in
    let m = c.args.mask.now in
    fills_next _ c.loop-a.new a _ c.loop-a.invariant (near (goal.at.loop-a-preserved c).In-loop-a (sized (goal.at.loop-a-preserved c).After-size-points))
    (sym (byte_member m (get_or c.args.old.now a 0) (byte_small (size c.args.n) m (get_or c.args.old.now a 0) c.requires.2)))

pub returns : goal.returns
unfolding gathered
returns c =
    let e : c.loop-a.a ≡ size c.args.n = omega (arith, (sized (goal.at.returns c).After-size-points).0) in
    fills_all (λ i. member c.args.mask.now (get_or c.args.old.now i 0)) c.loop-a.new (size c.args.n) (rw (← e) c.loop-a.invariant)

pub bounds-old-a : goal.bounds-old-a
bounds-old-a c = near (goal.at.bounds-old-a c).In-loop-a (sized (goal.at.bounds-old-a c).After-size-points)

pub bounds-new-a : goal.bounds-new-a
bounds-new-a c = near (goal.at.bounds-new-a c).In-loop-a (sized (goal.at.bounds-new-a c).After-size-points)
