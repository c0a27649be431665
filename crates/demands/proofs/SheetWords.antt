-- The sentences on the sheet hold.
--   sheet_words   each of them
use mathlib.Core.Path.{◌≡◌, refl, ap, ◌∙◌}
use mathlib.Core.List.{List, ◌++◌}
use Prim.Native.Nat.{ℕ}
use Rattle.cube.specs.NumberLists.{lists}
use Rattle.cube.specs.Mask.{points, mask}
use Rattle.order.specs.BuiltIn.{graded}
use Rattle.refusal.specs.Outcome.{refused, accepted}
use Rattle.refusal.proofs.Verdicts.{accepted_passes}
use Rattle.filter.specs.Part.{part}
use Rattle.filter.specs.Outside.{outside}
use Rattle.filter_file.specs.File.{Contents}
use Rattle.filter_file.specs.Read.{reading}
use Rattle.immunity.specs.Judgement.{Judgement}
use Rattle.immunity.specs.Certificate.{certificate}
use Rattle.judge.specs.Judge.{JudgeAccepts}
use Rattle.judge.proofs.Passed.{judge_accepted}
use Rattle.certify.specs.Certify.{certify_inputs, ranks_equal, certify_outcome, CertifyAccepts}
use Rattle.text.specs.Text.{newline, labelled}
use Rattle.sheet_lines.specs.Lines.{sum_lines}
use Rattle.sheet_text.specs.Sheet.{side_sums, judgement_sheet, sheet_of, sheet}
use Rattle.demands.specs.JudgementWords.{SheetWords}

-- what Judge answers and leaves is printed
sheet_judged : (file : List ℕ) (c : Contents) (j : Judgement) → reading file ≡ accepted c
    → let s : List ℕ = mask (lists c.set) in let f : List ℕ = mask (lists c.table) in
    JudgeAccepts graded c.n s f j → sheet file ≡ judgement_sheet c.n s f j
unfolding sheet
sheet_judged file c j e h =
    let s : List ℕ = mask (lists c.set) in
    let f : List ℕ = mask (lists c.table) in
    let (_, is) = judge_accepted graded c.n s f j h in
    ap sheet_of e ∙ ap (judgement_sheet c.n s f) is

-- and what Certify writes
sums_certified : (n : ℕ) (s f : List ℕ) (side d : ℕ) (c : List ℕ) → CertifyAccepts graded n s f side d c
    → side_sums n s f d side ≡ sum_lines side c (outside (points s) (part side s f))
unfolding certify_outcome
sums_certified n s f side d c e =
    let (_, same) = accepted_passes (certify_inputs s f n side d 8192 4096 ++ ranks_equal graded s f n side d) _ c e in
    let is : certificate graded n s f side d ≡ c = cc in
    ap (λ x. sum_lines side x (outside (points s) (part side s f))) is

-- the line of a file that is refused
sheet_refused : (file : List ℕ) (k : ℕ) → reading file ≡ refused k → sheet file ≡ labelled "refused" k ++ newline
unfolding sheet
sheet_refused file k e = ap sheet_of e

-- each of them
pub sheet_words : SheetWords
sheet_words = record {
  sheet_judged = sheet_judged;
  sums_certified = sums_certified;
  ranks_printed = λ n rs. refl;
  sums_printed = λ n s f. (refl, refl, λ d. refl);
  sum_printed = λ side c ps. refl;
  additions_printed = λ m. refl;
  sheet_refused = sheet_refused;
}
