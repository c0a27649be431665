-- What Judge answers states the judgement (judge_found), and no point where there is no report (judge_none); the lines are written one behind the other (appends_then), each within its room.
use Rattle.std.proofs.Common.{◌≡◌, sym, ap, ◌∙◌, None, Some, ℕ, ◌≤◌, zero-le, arith, length}
use Rattle.std.proofs.Math.ListN.{length-replicate}
use Rattle.refusal.specs.Outcome.{accepted}
use Rattle.cube.specs.Mask.{points}
use Rattle.order.specs.BuiltIn.{graded}
use Rattle.filter.specs.Sides.{pair}
use Rattle.filter.specs.Filter.{Filter}
use Rattle.filter.proofs.Filters.{few_taps}
use Rattle.immunity.specs.Judgement.{Judgement, judged}
use Rattle.judge.specs.Judge.{judgement_of, outcome_of}
use Rattle.judge.proofs.Passed.{judge_accepted}
use Rattle.buffer.specs.Appends.{Appends}
use Rattle.buffer.proofs.Appending.{appends_then, appends_same}
use Rattle.sheet_lines.specs.Lines.{first_line}
use Rattle.sheet_text.specs.Sheet.{judgement_sheet}
use Rattle.sheet_text.proofs.SheetAccepts.{answered, judge_found, judge_none, sums_accepted, no_point_lines}
use Rattle.sheet_text.proofs.sheet.filter_sheet.Goals as goal
use Rattle.sheet_text.proofs.sheet.filter_sheet.Goals.{After-judge, In-Some, Start}

-- what Judge has checked
filter : (c : Start) → Filter c.args.n c.args.set.now c.args.table.now
filter c = (judge_accepted graded c.args.n c.args.set.now c.args.table.now (judged graded c.args.n c.args.set.now c.args.table.now) c.requires.1).0

-- the number of taps
small : (c : Start) → c.args.n ≤ 9
small c = few_taps _ _ _ (filter c)

-- what Judge answers is accepted
stated : (c : After-judge) → outcome_of c.judge.result (pair c.judge.new.one c.judge.new.zero) c.judge.new.kept ≡ accepted (judged graded c.args.n c.args.set.now c.args.table.now)
stated c =
    answered c.args.n c.args.set.now c.args.table.now c.requires.1 (length-replicate {A = ℕ} 8192 0) (length-replicate {A = ℕ} 512 0) (length-replicate {A = ℕ} 512 0) (length-replicate {A = ℕ} 512 0)
    c.judge.ensures

-- what is reported is the judgement
judgement : (c : In-Some) → outcome_of c.judge.result (pair c.judge.new.one c.judge.new.zero) c.judge.new.kept ≡ accepted (judged graded c.args.n c.args.set.now c.args.table.now)
    → judgement_of c.in-Some.found c.unwrap-answer.result.ranks (pair c.judge.new.one c.judge.new.zero) c.judge.new.kept ≡ judged graded c.args.n c.args.set.now c.args.table.now
judgement c says =
    judge_found c.args.n c.args.set.now c.args.table.now c.requires.1 _ _ _ says c.unwrap-answer.result c.unwrap-answer.ensures (Some c.in-Some.found) c.in-Some.is

pub first_line-first-requires : goal.first_line-first-requires
first_line-first-requires c =
    omega (arith, c.requires.0)

pub rank_lines-report-requires : goal.rank_lines-report-requires
rank_lines-report-requires c =
    (omega (arith, c.first_line-first.ensures.1, c.first_line-first.auto.text, c.requires.0), small (goal.at.rank_lines-report-requires c).Start)

pub report_line-sides-requires : goal.report_line-sides-requires
report_line-sides-requires c =
    omega (arith, c.rank_lines-report.ensures.1, c.rank_lines-report.auto.text, c.first_line-first.ensures.1, c.first_line-first.auto.text, c.requires.0)

pub sides_line-of_sums-requires : goal.sides_line-of_sums-requires
sides_line-of_sums-requires c =
    omega (arith, c.report_line-sides.ensures.1, c.report_line-sides.auto.text, c.rank_lines-report.ensures.1, c.rank_lines-report.auto.text, c.first_line-first.ensures.1, c.first_line-first.auto.text, c.requires.0)

pub sum_sections-end-requires : goal.sum_sections-end-requires
sum_sections-end-requires c = (
  omega (arith, c.sides_line-of_sums.ensures.1, c.sides_line-of_sums.auto.text, c.report_line-sides.ensures.1, c.report_line-sides.auto.text, c.rank_lines-report.ensures.1, c.rank_lines-report.auto.text, c.first_line-first.ensures.1, c.first_line-first.auto.text, c.requires.0),
  sums_accepted c.args.n c.args.set.now c.args.table.now c.requires.1 _ (sym (ap (λ (j : Judgement). j.degree) (judgement (goal.at.sum_sections-end-requires c).In-Some (stated (goal.at.sum_sections-end-requires c).After-judge)))),
)

pub additions_line-requires : goal.additions_line-requires
additions_line-requires c =
    omega (arith, c.sum_sections-end.ensures.1, c.sum_sections-end.auto.text, c.sides_line-of_sums.ensures.1, c.sides_line-of_sums.auto.text, c.report_line-sides.ensures.1, c.report_line-sides.auto.text, c.rank_lines-report.ensures.1, c.rank_lines-report.auto.text, c.first_line-first.ensures.1, c.first_line-first.auto.text, c.requires.0)

pub no_point_sheet-requires : goal.no_point_sheet-requires
no_point_sheet-requires c = (c.requires.0, small (goal.at.no_point_sheet-requires c).Start)

pub returns-in-None : goal.returns-in-None
returns-in-None c =
    let a = c.args in
    let says = stated (goal.at.returns-in-None c).After-judge in
    let answer = c.unwrap-answer.result in
    let empty = judge_none a.n a.set.now a.table.now c.requires.1 _ _ _ says answer c.unwrap-answer.ensures c.in-None.is in
    let found = judge_found a.n a.set.now a.table.now c.requires.1 _ _ _ says answer c.unwrap-answer.ensures None c.in-None.is in
    appends_same (no_point_lines a.n a.set.now a.table.now empty _ _ _ ∙ ap (judgement_sheet a.n a.set.now a.table.now) found) c.no_point_sheet.ensures

pub returns-in-Some : goal.returns-in-Some
unfolding judgement_sheet
returns-in-Some c =
    let mark = Some c.in-Some.found.mark in
    let first : Appends (first_line c.args.n (length (points c.args.set.now)) mark) c.args.text.now c.first_line-first.new.text 0 c.first_line-first.result =
    appends_same (ap (λ k. first_line c.args.n k mark) c.count.ensures.0) c.first_line-first.ensures.0 in
    appends_same (ap (judgement_sheet c.args.n c.args.set.now c.args.table.now) (judgement (goal.at.returns-in-Some c).In-Some (stated (goal.at.returns-in-Some c).After-judge)))
    (appends_then zero-le
    (appends_then zero-le (appends_then zero-le (appends_then zero-le (appends_then zero-le first c.rank_lines-report.ensures.0) c.report_line-sides.ensures.0) c.sides_line-of_sums.ensures.0) c.sum_sections-end.ensures.0)
    c.additions_line.ensures.0)
