-- What is promised of the report that the exported Judge is lent, about the definitions that its contract equates with its status:
-- docs/SPECIFICATION.md, 'Library'.
--   reported_rules r s f n ..   the rules of Judge where it is lent a report of r numbers too, in the order of checking
--   JudgeReport                 what is promised of the report's length
use Rattle.std.specs.Prelude.{◌≡◌, ◌↔◌, ◌≢◌, List, ◌∷◌, ℕ}
use Rattle.refusal.specs.Rule.{Rule, ◌unless◌, FirstBroken}
use Rattle.refusal.specs.Outcome.{refused, accepted}
use Rattle.refusal.specs.Status.{status_of}
use Rattle.order.specs.BuiltIn.{graded}
use Rattle.immunity.specs.Judgement.{Judgement}
use Rattle.judge.specs.Judge.{judge_outcome}
use Rattle.judge_report.specs.Report.{reported_outcome}
use Rattle.demands.specs.JudgementWords.{judge_rules}

-- 1: the report; then Judge's own, of which the first are lengths as well
abbrev pub reported_rules : ℕ → List ℕ → List ℕ → ℕ → ℕ → ℕ → ℕ → ℕ → List Rule
reported_rules r s f n m p q l = 1 unless (r ≡ 36) ∷ judge_rules s f n m p q l

-- what is promised of the report's length
pub record JudgeReport : Type 0 where
  -- a refusal is by the number of the first rule that does not hold
  pub refuses : (n : ℕ) (s f : List ℕ) (m p q l r k : ℕ) → (reported_outcome r (judge_outcome graded s f n m p q l) ≡ refused k)
      ↔ FirstBroken (reported_rules r s f n m p q l) k
  -- the status is a number other than 0 exactly when that is the number,
  pub status_broken : (n : ℕ) (s f : List ℕ) (m p q l r k : ℕ) → k ≢ 0 → (status_of (reported_outcome r (judge_outcome graded s f n m p q l)) ≡ k)
      ↔ FirstBroken (reported_rules r s f n m p q l) k
  -- and 0 exactly when a judgement is accepted:
  pub status_0 : (n : ℕ) (s f : List ℕ) (m p q l r : ℕ) → (status_of (reported_outcome r (judge_outcome graded s f n m p q l)) ≡ 0)
      ↔ ((j : Judgement) × (reported_outcome r (judge_outcome graded s f n m p q l) ≡ accepted j))
  -- that which Judge accepts, where 36 numbers are lent besides
  pub accepts : (n : ℕ) (s f : List ℕ) (m p q l r : ℕ) (j : Judgement) → (reported_outcome r (judge_outcome graded s f n m p q l) ≡ accepted j)
      ↔ ((r ≡ 36) × (judge_outcome graded s f n m p q l ≡ accepted j))
