-- Where the report has its length, status and report are those of what Judge answers (answers).
use mathlib.Core.Path.{◌≡◌, refl, ap, ◌∙◌}
use mathlib.Core.List.{List}
use Prim.Native.Nat.{ℕ}
use borrow.Author.Rules.{rules}
use native.Mathlib.Omega.{arith}
use lib.ListN.{length}
use borrow.Author.Tests.{eq-eqb}
use Rattle.refusal.specs.Outcome.{Outcome, accepted, left_by}
use Rattle.refusal.specs.Status.{status_of}
use Rattle.filter.specs.Sides.{Sides}
use Rattle.immunity.specs.Judgement.{Judgement}
use Rattle.std.specs.Prelude.{Result}
use Rattle.refusal.specs.declared.Refusal.{Refusal}
use Rattle.judge.specs.declared.JudgeAnswer.{JudgeAnswer}
use Rattle.judge.specs.Judge.{JudgeContract}
use Rattle.judge.proofs.Passed.{Fits, accepted_fits}
use Rattle.judge_report.specs.Report.{report_of, Reports}
use Rattle.judge_report.proofs.Numbers.{stands, reportable}
use Rattle.exports.specs.Exported.{JudgeStatus}
use Rattle.exports.proofs.ekthavrul_judge.Goals as goal

-- the status and the report of an answer of Judge that meets its contract
answers : {o : Outcome Judgement} {ws ws' : List ℕ} {w w' : Sides (List ℕ)} {m m' ns ns' : List ℕ} {answer : Result JudgeAnswer Refusal} {r : ℕ}
    → JudgeContract o ws ws' w w' m m' answer → Reports answer ns ns' r → ((j : Judgement) → o ≡ accepted j → Fits j) → JudgeStatus o ws ws' w w' m m' ns ns' r
answers {o} {ws} {ws'} {w} {w'} {m} {m'} {ns} {ns'} h says fits = record {
  status = says.status w' m' ∙ ap status_of h.answers;
  workspace = h.leaves;
  witnesses = h.leaves_witnesses;
  kept = h.leaves_kept;
  report = report;
  degree_named = λ j a. stands j (fits j a).ranks (is j a) 0 j.degree 10 refl (fits j a).degree;
  side_named = λ j a. stands j (fits j a).ranks (is j a) 1 j.side 2 refl (fits j a).side;
  one_named = λ j a. stands j (fits j a).ranks (is j a) 3 j.degrees.one 10 refl (fits j a).one;
  zero_named = λ j a. stands j (fits j a).ranks (is j a) 4 j.degrees.zero 10 refl (fits j a).zero;
  mark_named = λ j a. stands j (fits j a).ranks (is j a) 5 j.mark 10 refl (fits j a).mark;
}
  where
    report : ns' ≡ left_by o ns report_of
    report = says.report w' m' ∙ ap (λ y. left_by y ns report_of) h.answers

    is : (j : Judgement) → o ≡ accepted j → ns' ≡ report_of j
    is j a = report ∙ ap (λ y. left_by y ns report_of) a

pub write_report-requires : goal.write_report-requires
write_report-requires c =
    reportable c.judge-answer.ensures (accepted_fits _ _ _ _ _ _ _ _)

pub returns : goal.returns
returns c =
    let long : length c.args.report.now ≡ 36 = omega arith in
    let lent : c.unwrap.result.now ≡ c.args.report.now = search rules in
    rw (eq-eqb _ _ long) (answers c.judge-answer.ensures (rw lent at c.write_report.ensures) (accepted_fits _ _ _ _ _ _ _ _))
