-- Judge: docs/SPECIFICATION.md, 'Judge'.
--   judge_checks s f n m p q l    the checks of Judge, lent the set s, the table f, a workspace of m numbers, witness buffers of p and q bytes and a mask of l bytes for the kept points
--   judge_outcome o s f n ..      what Judge answers and leaves in the order o: the first refusal, or the judgement of the set and the table
--   judgement_of r ranks w m      the judgement that a report states, with the ranks, the witness buffers w and the mask m of kept points
--   no_point_judgement ranks w m  the judgement that an answer without a report states, with the same: no mark, degree or side, and 0 additions
--   found x ranks w m             the judgement that an answer states, by its report x, with the same
--   outcome_of r w m              what an answer or a refusal, with the witness buffers w and the mask m at exit, states
--   JudgeContract o ..            the contract of Judge: it answers the outcome o, and leaves what that says
--   JudgeAccepts o n s f j        Judge accepts n taps, the set s and the table f, lent buffers of the right lengths, and answers and leaves j
use Rattle.std.specs.Prelude.{◌≡◌, List, ◌++◌, ℕ, length, Option, None, Some, Result}
use Rattle.refusal.specs.declared.Refusal.{Refusal}
use Rattle.refusal.specs.Outcome.{Outcome, accepted, Check, checked, left, left_by, outcome_by}
use Rattle.packed.specs.Packed.{zeros}
use Rattle.filter.specs.Sides.{Sides, pair}
use Rattle.filter.specs.Checks.{length_is, taps_of, filter_lengths, filter_masks}
use Rattle.immunity.specs.declared.Ranks.{Ranks}
use Rattle.immunity.specs.Judgement.{Judgement, judged}
use Rattle.judge.specs.declared.JudgeAnswer.{JudgeAnswer}
use Rattle.judge.specs.declared.Report.{Report}

-- lengths, taps, the set's bytes, the table's bytes
abbrev pub judge_checks : List ℕ → List ℕ → ℕ → ℕ → ℕ → ℕ → ℕ → List Check
judge_checks s f n m p q l = filter_lengths s f ++ length_is m 8192 ++ length_is p 512 ++ length_is q 512 ++ length_is l 512 ++ taps_of n ++ filter_masks n s f

-- the first refusal, or the judgement
unfoldable pub judge_outcome : List ℕ → List ℕ → List ℕ → ℕ → ℕ → ℕ → ℕ → ℕ → Outcome Judgement
judge_outcome o s f n m p q l = checked (judge_checks s f n m p q l) (accepted (judged o n s f))

-- the judgement that a report states, with the ranks, the witness buffers and the mask of kept points
abbrev pub judgement_of : Report → List Ranks → Sides (List ℕ) → List ℕ → Judgement
judgement_of r ranks w m = record {
  ranks = ranks;
  mark = Some r.mark;
  degree = Some r.degree;
  side = Some r.side;
  degrees = pair r.one r.zero;
  additions = r.additions;
  witnesses = w;
  kept = m;
}

-- the same of a set without a point: no mark, no degree, no side, no degree of either side, no addition
abbrev pub no_point_judgement : List Ranks → Sides (List ℕ) → List ℕ → Judgement
no_point_judgement ranks w m = record {
  ranks = ranks;
  mark = None;
  degree = None;
  side = None;
  degrees = pair None None;
  additions = 0;
  witnesses = w;
  kept = m;
}

-- the judgement that an answer states, by its report or without one
abbrev pub found : Option Report → List Ranks → Sides (List ℕ) → List ℕ → Judgement
found None ranks w m = no_point_judgement ranks w m
found (Some r) ranks w m = judgement_of r ranks w m

-- the refusal's number, or the judgement
abbrev pub outcome_of : Result JudgeAnswer Refusal → Sides (List ℕ) → List ℕ → Outcome Judgement
outcome_of r w m = outcome_by r (λ a. found a.report a.ranks w m)

-- what is answered, and how the workspace, the witness buffers and the mask of kept points are left
pub record JudgeContract (o : Outcome Judgement) (ws ws' : List ℕ) (w w' : Sides (List ℕ)) (kept kept' : List ℕ) (r : Result JudgeAnswer Refusal) : Type 0 where
  pub answers : outcome_of r w' kept' ≡ o
  pub leaves : ws' ≡ left o ws (zeros (length ws))
  pub leaves_witnesses : w' ≡ left_by o w (λ j. j.witnesses)
  pub leaves_kept : kept' ≡ left_by o kept (λ j. j.kept)

-- Judge accepts n taps, the set s and the table f, lent buffers of the right lengths, and answers and leaves j
abbrev pub JudgeAccepts : List ℕ → ℕ → List ℕ → List ℕ → Judgement → Type 0
JudgeAccepts o n s f j = judge_outcome o s f n 8192 512 512 512 ≡ accepted j
