-- The report of Judge: what it answers beside its buffers, as a list of 36 numbers.
--   degree_number k            the number for a degree; 10, which is no degree, if there is none
--   side_number side           the number for a side; 2, which is no side, if there is none
--   numbers rs k side a ks m   the report with the ranks rs, the degree k, the side, a additions, the sides' own degrees ks and the mark m
--   report_of j                the report of a judgement
--   StandsFor x i m            the number m stands for x: it is i exactly where x is none, and else what x is
--   Bounded r                  the numbers of what Judge reports fit in 32 bits: degree and mark are at most 9, that for a side's own degree at most 10
--   Reportable answer          so do those of what Judge answers, where it reports
--   Reports answer ns ns' r    the status r of what Judge answers, and a report, ns at entry and ns' at exit, that holds what was answered
--   reported_outcome l o       the outcome o of Judge where a report of l numbers is lent beside its buffers: 1 unless there are 36
use Rattle.std.specs.Prelude.{◌≡◌, ◌↔◌, List, [], ◌∷◌, ◌++◌, ℕ, ◌≤◌, Option, None, Some, unwrap_or, IfSome, Result, IfOk}
use Rattle.refusal.specs.declared.Refusal.{Refusal}
use Rattle.refusal.specs.Outcome.{Outcome, checked, left_by}
use Rattle.refusal.specs.Status.{status_of}
use Rattle.filter.specs.Sides.{Sides}
use Rattle.filter.specs.Checks.{length_is}
use Rattle.immunity.specs.declared.Ranks.{Ranks}
use Rattle.immunity.specs.Ranks.{flat}
use Rattle.immunity.specs.Judgement.{Judgement}
use Rattle.judge.specs.declared.JudgeAnswer.{JudgeAnswer}
use Rattle.judge.specs.declared.Report.{Report}
use Rattle.judge.specs.Judge.{outcome_of}

-- the degree, or 10 if there is none
abbrev pub degree_number : Option ℕ → ℕ
degree_number k = unwrap_or k 10

-- the side, or 2 if there is none
abbrev pub side_number : Option ℕ → ℕ
side_number side = unwrap_or side 2

-- the ranks, then the degree, the side, the additions, side 1's own degree, side 0's, and the mark
unfoldable pub numbers : List Ranks → Option ℕ → Option ℕ → ℕ → Sides (Option ℕ) → Option ℕ → List ℕ
numbers rs k side a ks m = flat rs ++ (degree_number k ∷ side_number side ∷ a ∷ degree_number ks.one ∷ degree_number ks.zero ∷ degree_number m ∷ [])

-- the report of a judgement
abbrev pub report_of : Judgement → List ℕ
report_of j = numbers j.ranks j.degree j.side j.additions j.degrees j.mark

-- the number m is i exactly where there is none, and else the one that there is
abbrev pub StandsFor : Option ℕ → ℕ → ℕ → Type 0
StandsFor x i m = ((m ≡ i) ↔ (x ≡ None)) × ((k : ℕ) → x ≡ Some k → m ≡ k)

-- each degree and the mark of a report is at most 9, and the number of a side's own at most 10
abbrev pub Bounded : Report → Type 0
Bounded r = (r.degree ≤ 9) × (r.mark ≤ 9) × (degree_number r.one ≤ 10) × (degree_number r.zero ≤ 10)

-- so is what is answered, where there is a report
abbrev pub Reportable : Result JudgeAnswer Refusal → Type 0
Reportable answer = IfOk answer (λ a. IfSome a.report Bounded)

-- the status and the report of an answer, whatever the witness buffers w and the mask m of kept points are
pub record Reports (answer : Result JudgeAnswer Refusal) (ns ns' : List ℕ) (r : ℕ) : Type 0 where
  pub status : (w : Sides (List ℕ)) (m : List ℕ) → r ≡ status_of (outcome_of answer w m)
  pub report : (w : Sides (List ℕ)) (m : List ℕ) → ns' ≡ left_by (outcome_of answer w m) ns report_of

-- 1 unless the report has 36 numbers, and then what Judge answers and leaves
abbrev pub reported_outcome : ℕ → Outcome Judgement → Outcome Judgement
reported_outcome l o = checked (length_is l 36) o
