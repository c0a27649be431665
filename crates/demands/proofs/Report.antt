-- What is promised of the report's length holds.
--   reported_refuses   the rule of the report's length before any others
--   judge_report       each sentence of it
use mathlib.Core.Path.{◌≡◌}
use mathlib.Core.Logic.{◌↔◌, ◌≢◌}
use mathlib.Core.List.{List, [], ◌∷◌}
use Prim.Native.Nat.{ℕ}
use native.Mathlib.Omega.{arith}
use borrow.Author.Tests.{eqb-true, eq-eqb}
use lib.Dec.{eqb}
use Rattle.refusal.specs.declared.Refusal.TheVariants.{Length}
use Rattle.refusal.specs.Rule.{Rule, ◌unless◌, FirstBroken}
use Rattle.refusal.specs.Outcome.{Outcome, refused, accepted}
use Rattle.refusal.specs.Status.{status_of}
use Rattle.refusal.proofs.Outcomes.{check_passed, status_refused, status_accepted}
use Rattle.refusal.proofs.Rules.{first_step, Other, other_broken}
use Rattle.order.specs.BuiltIn.{graded}
use Rattle.immunity.specs.Judgement.{Judgement}
use Rattle.judge.specs.Judge.{judge_outcome}
use Rattle.judge_report.specs.Report.{reported_outcome}
use Rattle.demands.specs.JudgementWords.{judge_rules}
use Rattle.demands.specs.Report.{reported_rules, JudgeReport}
use Rattle.demands.proofs.Refusals.{judge_refuses}

-- the rule of the report's length before any others
pub reported_refuses : (o : Outcome Judgement) (rs : List Rule) (r k : ℕ) → ((o ≡ refused k) ↔ FirstBroken rs k)
    → (reported_outcome r o ≡ refused k) ↔ FirstBroken (1 unless (r ≡ 36) ∷ rs) k
reported_refuses o rs r k says = first_step (eqb r 36) Length (r ≡ 36) (FirstBroken rs k) o k (eqb-true r 36, eq-eqb r 36) says

module _ (n : ℕ) (s f : List ℕ) (m p q l r : ℕ) where
  -- a refusal is by the number of the first rule that does not hold
  refuses : (k : ℕ) → (reported_outcome r (judge_outcome graded s f n m p q l) ≡ refused k) ↔ FirstBroken (reported_rules r s f n m p q l) k
  refuses k = reported_refuses (judge_outcome graded s f n m p q l) (judge_rules s f n m p q l) r k (judge_refuses n s f m p q l k)

  -- none of them has the number 0
  no_0 : Other 0 (reported_rules r s f n m p q l)
  no_0 = (
    λ e. omega arith,
    (λ e. omega arith, (λ e. omega arith, (λ e. omega arith, (λ e. omega arith, (λ e. omega arith, (λ e. omega arith, (λ e. omega arith, (λ e. omega arith, (λ e. omega arith, tt))))))))),
  )

  -- so nothing is refused by it
  not_0 : reported_outcome r (judge_outcome graded s f n m p q l) ≢ refused 0
  not_0 e = other_broken 0 (reported_rules r s f n m p q l) no_0 ((refuses 0).0 e)

  -- a status other than 0
  status_broken : (k : ℕ) → k ≢ 0 → (status_of (reported_outcome r (judge_outcome graded s f n m p q l)) ≡ k) ↔ FirstBroken (reported_rules r s f n m p q l) k
  status_broken k h =
      let says = status_refused (reported_outcome r (judge_outcome graded s f n m p q l)) k h in
      (λ e. (refuses k).0 (says.0 e), λ b. says.1 ((refuses k).1 b))

  -- what is accepted
  accepts : (j : Judgement) → (reported_outcome r (judge_outcome graded s f n m p q l) ≡ accepted j) ↔ ((r ≡ 36) × (judge_outcome graded s f n m p q l ≡ accepted j))
  accepts j = (
    λ e. let (right, is) = check_passed (eqb r 36) Length [] (judge_outcome graded s f n m p q l) j e in (eqb-true r 36 right, is),
    λ (right, is). rw (eq-eqb r 36 right) is,
  )

-- each sentence of it
pub judge_report : JudgeReport
judge_report = record {
  refuses = refuses;
  status_broken = status_broken;
  status_0 = λ n s f m p q l r. status_accepted (reported_outcome r (judge_outcome graded s f n m p q l)) (not_0 n s f m p q l r);
  accepts = accepts;
}
