-- The old points are found once (old_points); each mask is gathered by them, which is the rearranged mask (gathered_rewired), and copied back whole (appends_whole).
use mathlib.Core.Path.{◌≡◌, ◌∙◌}
use native.Mathlib.Omega.{arith}
use lib.ListN.{length}
use Rattle.buffer.proofs.Appending.{appends_whole}
use Rattle.filter.specs.Filter.{Filter}
use Rattle.filter.proofs.Filters.{few_taps}
use Rattle.wiring.specs.Wiring.{Wiring}
use Rattle.rearrange.proofs.Answers.{rearrange_passed}
use Rattle.rearrange.proofs.Gathered.{old_below, gathered_rewired}
use Rattle.rearrange.proofs.rearrange_points.Goals as goal
use Rattle.rearrange.proofs.rearrange_points.Goals.{Start}

-- what the checks have shown
shown : (s : Start) → let a = s.args in Filter a.n a.set.now a.table.now × Wiring a.n a.wiring.now
shown s = rearrange_passed _ _ _ _ s.requires

pub returns : goal.returns
returns c =
    let a = c.args in
    let (filter, _) = shown (goal.at.returns c).Start in
    let set : length c.gather-new_set.result ≡ length a.set.now = omega (arith, filter.set_long) in
    let table : length c.gather-new_table.result ≡ length a.table.now = omega (arith, filter.table_long) in (
      appends_whole set c.append.ensures ∙ c.gather-new_set.ensures ∙ gathered_rewired c.old_points-old.ensures a.set.now,
      appends_whole table c.append-2.ensures ∙ c.gather-new_table.ensures ∙ gathered_rewired c.old_points-old.ensures a.table.now,
    )

pub old_points-old-requires : goal.old_points-old-requires
old_points-old-requires c = let (filter, wiring) = shown (goal.at.old_points-old-requires c).Start in (few_taps _ _ _ filter, wiring)

pub gather-new_set-requires : goal.gather-new_set-requires
gather-new_set-requires c =
    let (filter, wiring) = shown (goal.at.gather-new_set-requires c).Start in
    let old = c.old_points-old.ensures in
    let small = few_taps _ _ _ filter in
    (small, filter.set_long, filter.set_formed, old_below wiring small old)

pub gather-new_table-requires : goal.gather-new_table-requires
gather-new_table-requires c =
    let (filter, wiring) = shown (goal.at.gather-new_table-requires c).Start in
    let old = c.old_points-old.ensures in
    let small = few_taps _ _ _ filter in
    (small, filter.table_long, filter.table_formed, old_below wiring small old)

pub append-requires : goal.append-requires
append-requires c =
    let (filter, _) = shown (goal.at.append-requires c).Start in
    omega (arith, filter.set_long)

pub append-requires-2 : goal.append-requires-2
append-requires-2 c =
    let (filter, _) = shown (goal.at.append-requires-2 c).Start in
    omega (arith, filter.table_long)
