use mathlib.Core.Path.{◌≡◌, ap}
use Prim.Native.Nat.{◌+◌}
use native.Mathlib.Omega.{arith}
use lib.ListN.{length}
use Rattle.cube.specs.Mask.{points}
use Rattle.buffer.proofs.Appending.{appends_then, appends_same}
use Rattle.varint.specs.Varint.{encode_varint}
use Rattle.point_list.specs.PointList.{differences, encode_list}
use Rattle.point_list.proofs.Lengths.{list_sum}
use Rattle.point_list.proofs.append_list.Goals as goal
use Rattle.point_list.proofs.append_list.Goals.{After-count}

-- the bytes of the list are those of the number that is counted and those of the points
parts : (c : After-count) →
    let ps = points c.args.mask.now in
    length (encode_list ps) ≡ length (encode_varint c.count.result) + length (differences 0 ps)
parts c = list_sum _ c.count.ensures.0

pub append_varint-first-requires : goal.append_varint-first-requires
append_varint-first-requires c = (omega arith, omega (arith, parts (goal.at.append_varint-first-requires c).After-count))

pub append_points-requires : goal.append_points-requires
append_points-requires c =
    (omega arith, omega (arith, parts (goal.at.append_points-requires c).After-count, c.append_varint-first.ensures.upto))

pub returns : goal.returns
unfolding encode_list
returns c =
    appends_then (omega arith) (appends_same (ap encode_varint c.count.ensures.0) c.append_varint-first.ensures) c.append_points.ensures
