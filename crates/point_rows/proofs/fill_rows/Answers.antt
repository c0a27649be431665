use Rattle.std.proofs.Common.{rules, arith, ◌≡◌, ◌+◌, ◌-◌, ◌≤◌, length, ◌∙◌}
use Rattle.std.proofs.lemmas.List.{length-map}
use Rattle.cube.specs.Cube.{size}
use Rattle.packed.specs.Packed.{unpack, unpacked}
use Rattle.point_rows.proofs.Filling.{filled_none, filled_next, filled_there, filled_all}
use Rattle.point_rows.proofs.fill_rows.Goals as goal
use Rattle.point_rows.proofs.fill_rows.Goals.{Start, In-loop-a}

-- the workspace has 1024 rows
long : (c : Start) → length (unpacked c.args.ws.now) ≡ 1024
long c = length-map c.args.ws.now unpack ∙ search rules

-- the points passed are points of n taps
points : (c : In-loop-a) → c.loop-a.a ≤ size c.args.n
points c = omega (arith, c.size-a.ensures.0 (omega arith))

pub loop-a-init : goal.loop-a-init
loop-a-init c = rw (c.size-a.ensures.0 (omega arith)) (filled_none c.exponents-list.result c.args.n (unpacked c.args.ws.now))

pub fill_point-requires : goal.fill_point-requires
fill_point-requires c =
    let e : c.loop-a.a - 1 + 1 ≡ c.loop-a.a = omega arith in
    let p = points (goal.at.fill_point-requires c).In-loop-a in
    let rows = filled_there c.exponents-list.result c.args.n (omega arith) (unpacked c.args.ws.now) (long (goal.at.fill_point-requires c).Start) c.loop-a.a p in
    (omega arith, omega arith, λ j from to. rw c.loop-a.invariant (rows j (rw e at from) to))

pub loop-a-preserved : goal.loop-a-preserved
loop-a-preserved c =
    let e : c.loop-a.a - 1 + 1 ≡ c.loop-a.a = omega arith in
    filled_next c.exponents-list.result c.args.n (omega arith) (unpacked c.args.ws.now) (long (goal.at.loop-a-preserved c).Start) (unpacked c.loop-a.ws) (unpacked c.fill_point.new.ws) (c.loop-a.a - 1)
    (omega (arith, points (goal.at.loop-a-preserved c).In-loop-a)) (rw e c.loop-a.invariant) c.fill_point.ensures

pub returns : goal.returns
returns c =
    let e : c.loop-a.a ≡ 0 = omega arith in
    c.loop-a.invariant ∙ rw (e, c.exponents-list.ensures) (filled_all _ c.args.n (unpacked c.args.ws.now))
