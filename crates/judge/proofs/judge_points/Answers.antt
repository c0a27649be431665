-- The checks show a filter (shown), so the filled workspace is ready (filled-ready) and stays so; the points marked are the kept ones of the reported degree (mask_reported); judgement_found says that what is found is the judgement.
use Rattle.std.proofs.Common.{rules, arith, List, ◌≡◌, ℕ, ◌≤◌, length, take, ap₂, ◌∙◌}
use lib.ListN.{length-map}
use Rattle.cube.specs.NumberLists.{Inside}
use Rattle.cube.specs.Cube.{size}
use Rattle.cube.specs.Mask.{points}
use Rattle.cube.proofs.Masks.{points_inside}
use Rattle.packed.specs.Packed.{unpack, unpacked, zeros}
use Rattle.filter.specs.Sides.{pair}
use Rattle.filter.specs.Filter.{Filter}
use Rattle.filter.specs.Part.{part}
use Rattle.filter.proofs.Filters.{few_taps}
use Rattle.filter.proofs.PartPoints.{part_inside}
use Rattle.point_rows.specs.Workspace.{exponents}
use Rattle.point_rows.proofs.Stored.{filled_rows}
use Rattle.matrix.proofs.Rising.{points_rising}
use Rattle.immunity.specs.Judgement.{judged}
use Rattle.immunity.proofs.PartPoints.{part_among}
use Rattle.degree_ranks.specs.Ready.{Ready}
use Rattle.degree_ranks.proofs.Ready.{ready_after}
use Rattle.judge.proofs.Passed.{Passes, judge_passed}
use Rattle.judge.proofs.Judging.{side_none, mask_reported, judgement_found, accepts}
use Rattle.judge.proofs.judge_points.Goals as goal
use Rattle.judge.proofs.judge_points.Goals.{After-fill_rows, After-report_found, After-unwrap-table, Start}

-- what the checks show
shown : (s : Start) → let a = s.args in Passes a.n a.set.now a.table.now (length a.workspace.now) (length a.one.now) (length a.zero.now) (length a.kept.now)
shown s = let a = s.args in judge_passed a.n a.set.now a.table.now (length a.workspace.now) (length a.one.now) (length a.zero.now) (length a.kept.now) s.requires.0

-- at most nine taps
small : (s : Start) → s.args.n ≤ 9
small s = few_taps _ _ _ (shown s).filter

-- the arrays are the set and the table
same : (u : After-unwrap-table) → (u.unwrap-set.result.now ≡ u.args.set.now) × (u.unwrap-table.result.now ≡ u.args.table.now)
same u = search rules

-- the workspace is ready once it is filled
filled-ready : (f : After-fill_rows) → f.args.n ≤ 9 → Ready f.args.order.now.list f.args.n f.fill_rows.new.ws
filled-ready f low =
    let ws = f.rows-ws.result.now in
    record { small = low; rows = rw f.fill_rows.ensures (filled_rows (exponents f.args.order.now.list f.args.n) f.args.n low (unpacked ws) (length-map ws unpack ∙ f.rows-ws.ensures.long)) }

-- the arrays are those of a filter
filter : (u : After-unwrap-table) → Filter u.args.n u.args.set.now u.args.table.now → Filter u.args.n u.unwrap-set.result.now u.unwrap-table.result.now
filter u h = let (set, table) = same u in rw (set, table) h

-- the points of the set are points of n taps
inside-set : (u : After-unwrap-table) → Filter u.args.n u.args.set.now u.args.table.now → Inside (size u.args.n) (points u.unwrap-set.result.now)
inside-set u h = points_inside _ _ (filter u h).set_formed

-- so are those of a part
inside-part : (side n : ℕ) (s f b : List ℕ) → Inside (size n) (points s) → points b ≡ part side s f → Inside (size n) (points b)
inside-part side n s f b m e = rw e (part_inside side _ s f m)

pub unwrap-set-requires : goal.unwrap-set-requires
unwrap-set-requires c = c.as_array.ensures.variant.1 (shown (goal.at.unwrap-set-requires c).Start).filter.set_long

pub unwrap-table-requires : goal.unwrap-table-requires
unwrap-table-requires c = c.as_array-2.ensures.variant.1 (shown (goal.at.unwrap-table-requires c).Start).filter.table_long

pub unwrap-one-requires : goal.unwrap-one-requires
unwrap-one-requires c = c.as_mut_array.ensures.variant.1 (shown (goal.at.unwrap-one-requires c).Start).one_long

pub unwrap-zero-requires : goal.unwrap-zero-requires
unwrap-zero-requires c = c.as_mut_array-2.ensures.variant.1 (shown (goal.at.unwrap-zero-requires c).Start).zero_long

pub unwrap-kept-requires : goal.unwrap-kept-requires
unwrap-kept-requires c = c.as_mut_array-3.ensures.variant.1 (shown (goal.at.unwrap-kept-requires c).Start).kept_long

pub rows-ws-requires : goal.rows-ws-requires
rows-ws-requires c = (shown (goal.at.rows-ws-requires c).Start).workspace_long

pub fill_rows-requires : goal.fill_rows-requires
fill_rows-requires c = small (goal.at.fill_rows-requires c).Start

pub all_ranks-found-requires : goal.all_ranks-found-requires
all_ranks-found-requires c =
    let s = (goal.at.all_ranks-found-requires c).Start in
    let u = (goal.at.all_ranks-found-requires c).After-unwrap-table in
    let inside = inside-set u (shown s).filter in (
      filled-ready (goal.at.all_ranks-found-requires c).After-fill_rows (small s),
      inside,
      inside-part 1 _ _ _ c.part_mask-part_one.result inside c.part_mask-part_one.ensures,
      inside-part 0 _ _ _ c.part_mask-part_zero.result inside c.part_mask-part_zero.ensures,
    )

pub found_degrees-degrees-requires : goal.found_degrees-degrees-requires
found_degrees-degrees-requires c = small (goal.at.found_degrees-degrees-requires c).Start

pub offset_bounds-ranks-k : goal.offset_bounds-ranks-k
offset_bounds-ranks-k c = omega (arith, c.found_degrees-degrees.ensures.reported_at_most_n, small (goal.at.offset_bounds-ranks-k c).Start)

pub bounds-ranks-k : goal.bounds-ranks-k
bounds-ranks-k c = omega (arith, c.found_degrees-degrees.ensures.reported_at_most_n, small (goal.at.bounds-ranks-k c).Start)

pub overflow_cast-k : goal.overflow_cast-k
overflow_cast-k c = omega (arith, c.found_degrees-degrees.ensures.reported_at_most_n, small (goal.at.overflow_cast-k c).Start)

pub column_count-columns-requires : goal.column_count-columns-requires
column_count-columns-requires c = small (goal.at.column_count-columns-requires c).Start

pub write_witnesses-requires : goal.write_witnesses-requires
write_witnesses-requires c =
    let s = (goal.at.write_witnesses-requires c).Start in
    let u = (goal.at.write_witnesses-requires c).After-unwrap-table in
    let inside = inside-set u (shown s).filter in
    let one = c.part_mask-part_one in
    let zero = c.part_mask-part_zero in
    let set = c.unwrap-set.result.now in
    let table = c.unwrap-table.result.now in
    let low = c.found_degrees-degrees.ensures.reported_at_most_n in
    let none = side_none c.args.order.now.list c.args.n (points set) (pair (points one.result) (points zero.result)) (points_rising set) (small s) c.all_ranks-found.result.ranks c.all_ranks-found.ensures.ranks c.found_degrees-degrees.result.reported low in (
      ready_after c.all_ranks-found.new.ws c.all_ranks-found.ensures.point_rows_stay (filled-ready (goal.at.write_witnesses-requires c).After-fill_rows (small s)),
      inside,
      inside-part 1 _ _ _ one.result inside one.ensures,
      inside-part 0 _ _ _ zero.result inside zero.ensures,
      low,
      none 1 (rw one.ensures (part_among 1 set table)),
      none 0 (rw zero.ensures (part_among 0 set table)),
    )

-- the workspace is zero
cleared : (c : After-report_found) → c.fill.new.self ≡ zeros (length c.args.workspace.now)
unfolding zeros
cleared c = search rules

pub returns : goal.returns
returns c =
    let a = c.args in
    let o = a.order.now.list in
    let u = (goal.at.returns c).After-unwrap-table in
    let shown = shown (goal.at.returns c).Start in
    let set = c.unwrap-set.result.now in
    let table = c.unwrap-table.result.now in
    let found = c.all_ranks-found in
    let degrees = c.found_degrees-degrees.ensures in
    let parts = ap₂ pair c.part_mask-part_one.ensures c.part_mask-part_zero.ensures in
    let marked = mask_reported o a.n (take found.result.kept found.new.pivots) (take found.result.kept found.new.points) (points set) found.ensures.kept_of_each_degree degrees.reported_at_most_n c.column_count-columns.ensures c.mark_below.ensures in
    let states = judgement_found a.order.now.graded (filter u shown.filter) (rw (same u).0 c.requires.1) parts found.ensures.ranks degrees.reported_at_most_n degrees.reported_first
    c.report_found.ensures degrees.mark degrees.own_degrees found.ensures.additions (ap₂ pair c.write_witnesses.ensures.witness_of_one c.write_witnesses.ensures.witness_of_zero) marked in
    accepts o a.set.now a.table.now a.n a.workspace.now a.one.now a.zero.now a.kept.now c.requires.0 (cleared (goal.at.returns c).After-report_found)
    (states ∙ ap₂ (judged o a.n) (same u).0 (same u).1)
