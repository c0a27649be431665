-- Each call leaves the rows of points in their places, so the workspace is ready for the next (ready_after); ranks and additions are joined by degree, and the kept points are those of the last call (points_at_degree).
use mathlib.Core.Path.{◌≡◌, sym, ◌∙◌}
use Prim.Native.Nat.{ℕ, ◌+◌}
use native.Mathlib.Omega.{arith}
use Rattle.cube.specs.NumberLists.{below}
use Rattle.cube.specs.Mask.{points}
use Rattle.gf2.specs.Prefix.{AtMost}
use Rattle.matrix.specs.Matrix.{eliminated, rank_of}
use Rattle.degree_ranks.specs.Cut.{column_count}
use Rattle.degree_ranks.proofs.Cut.{counts_few, points_at_degree, ranks_cut, additions_cut_lem, ranks_joined}
use Rattle.degree_ranks.proofs.Degrees.{summed_three}
use Rattle.degree_ranks.proofs.Ready.{ready_after}
use Rattle.degree_ranks.proofs.all_ranks.Goals as goal
use Rattle.degree_ranks.proofs.all_ranks.Goals.{After-column_counts-columns}

-- no degree has more than 512 columns
few : (k : After-column_counts-columns) → AtMost 512 k.column_counts-columns.result
few k i = rw k.column_counts-columns.ensures (counts_few k.args.order.now.graded k.args.n i)

pub mask_ranks-p-requires : goal.mask_ranks-p-requires
mask_ranks-p-requires c = (few (goal.at.mask_ranks-p-requires c).After-column_counts-columns, c.requires.0.small)

pub mask_ranks-q-requires : goal.mask_ranks-q-requires
mask_ranks-q-requires c = (few (goal.at.mask_ranks-q-requires c).After-column_counts-columns, c.requires.0.small)

pub mask_ranks-s-requires : goal.mask_ranks-s-requires
mask_ranks-s-requires c = (few (goal.at.mask_ranks-s-requires c).After-column_counts-columns, c.requires.0.small)

-- sums of three are equal by parts
sum_by : {a b c x y z : ℕ} → a ≡ x → b ≡ y → c ≡ z → a + b + c ≡ x + y + z
sum_by e f g = omega arith

pub returns : goal.returns
returns c =
    let a = c.args in
    let o = a.order.now.list in
    let g = a.order.now.graded in
    let n = a.n in
    let m = c.requires in
    let e = c.column_counts-columns.ensures in
    let s = c.mask_ranks-s.ensures in
    let p = c.mask_ranks-p.ensures in
    let q = c.mask_ranks-q.ensures in
    let ready-one = m.0 in
    let ready-zero = ready_after c.mask_ranks-p.new.ws p.additions_bound_and_point_rows.1 ready-one in
    let ready-set = ready_after c.mask_ranks-q.new.ws q.additions_bound_and_point_rows.1 ready-zero in
    record {
      ranks = c.by_degree.ensures
          ∙ ranks_joined n (λ d. rank_of o n d (points a.set.now)) (λ d. rank_of o n d (points a.one.now)) (λ d. rank_of o n d (points a.zero.now))
          (s.ranks ∙ ranks_cut g ready-set (points a.set.now) m.1 e) (p.ranks ∙ ranks_cut g ready-one (points a.one.now) m.2 e) (q.ranks ∙ ranks_cut g ready-zero (points a.zero.now) m.3 e);
      additions = sum_by (s.additions ∙ additions_cut_lem g ready-set (points a.set.now) m.1 e) (p.additions ∙ additions_cut_lem g ready-one (points a.one.now) m.2 e) (q.additions ∙ additions_cut_lem g ready-zero (points a.zero.now) m.3 e)
          ∙ sym (summed_three (λ d. (eliminated o n d (points a.set.now)).additions) (λ d. (eliminated o n d (points a.one.now)).additions) (λ d. (eliminated o n d (points a.zero.now)).additions) (below (n + 1)));
      point_rows_stay = s.additions_bound_and_point_rows.1 ∙ q.additions_bound_and_point_rows.1 ∙ p.additions_bound_and_point_rows.1;
      kept_below = s.kept_below;
      kept_of_each_degree = λ d l. s.kept_of_each_width (column_count o n d) ∙ points_at_degree g ready-set (points a.set.now) m.1 d l;
    }
