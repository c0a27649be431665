-- Where the point is the common bits of two points above it, whose rows are in place, its monomials are the common ones of theirs (common_monomials).
use Rattle.std.proofs.Common.{arith, ◌≤◌, set, ap₂, ◌∙◌}
use lib.Pow.{pow_mono}
use Rattle.cube.specs.Cube.{size}
use Rattle.gf2.specs.Cut.{common}
use Rattle.gf2.specs.Steps.{row_of}
use Rattle.packed.specs.Packed.{unpacked}
use Rattle.point_rows.proofs.PointRow.{common_monomials}
use Rattle.point_rows.proofs.fill_point.Goals as goal
use Rattle.point_rows.proofs.fill_point.Goals.{Start}

-- at most 512 points
few : (c : Start) → size c.args.n ≤ 512
few c = omega (arith, pow_mono c.requires.0)

pub common_row-requires : goal.common_row-requires
common_row-requires c = let f = few (goal.at.common_row-requires c).Start in (omega arith, omega arith, omega arith)

pub fill_row-requires : goal.fill_row-requires
fill_row-requires c = omega (arith, few (goal.at.fill_row-requires c).Start)

pub returns-then-a-s-2 : goal.returns-then-a-s-2
returns-then-a-s-2 c =
    let t = unpacked c.args.ws.now in
    let s = c.split_point-s in
    let rows = c.requires.2 in
    c.common_row.ensures
    ∙ ap₂ (set t) c.row_of.ensures
    (ap₂ (λ j k. common (row_of t j) (row_of t k)) c.row_of-then-a-s-2.ensures c.row_of-then-a-s-2-2.ensures
    ∙ ap₂ common (rows s.result.p.0 (omega arith) s.ensures.inside_p) (rows s.result.q.0 (omega arith) s.ensures.inside_q)
    ∙ common_monomials c.args.exponents.now s.result.p.0 s.result.q.0 c.args.a.0 s.ensures.common)
