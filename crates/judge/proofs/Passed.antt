-- What an acceptance of Judge shows.
--   Passes ..           what checks that pass show
--   judge_passed        checks that pass show it
--   accepted_filter     what is accepted is a filter, and is judged as the definition says
--   judge_accepted      the same of what Judge accepts, lent the right lengths
--   judge_accepts       each filter is accepted
--   accepts_right       what is accepted of any lengths Judge accepts, lent the right ones
--   found_accepts       so does it what it answers, lent buffers of any lengths
--   found_judged        what accepts is an answer with a report that states the judgement, or without one
--   Fits j              the judgement j fits a report: ranks at ten degrees, degrees up to 9 and a side up to 1
--   accepted_fits       so does each that is accepted
use mathlib.Core.Path.{◌≡◌, refl, sym, ap, ◌∙◌}
use mathlib.Core.Logic.{◌⊎◌, inl, inr}
use mathlib.Core.List.{List}
use Rattle.std.specs.Prelude.{Option, None, Some, Result, Ok, Err}
use Prim.Native.Nat.{ℕ, ◌≤◌, ◌<◌}
use native.Mathlib.Omega.{arith}
use lib.ListN.{length, length-map}
use borrow.Author.Tests.{eqb-true, eq-eqb}
use Rattle.refusal.specs.Outcome.{accepted}
use Rattle.refusal.specs.Verdict.{verdict}
use Rattle.refusal.specs.declared.Refusal.{Refusal}
use Rattle.refusal.proofs.Outcomes.{not_both, accepted_value}
use Rattle.refusal.proofs.Verdicts.{passed_all, all_passed, verdict_passes, accepted_passes}
use Rattle.cube.specs.NumberLists.{below}
use Rattle.cube.proofs.Masks.{length_from}
use Rattle.filter.specs.Sides.{Sides}
use Rattle.filter.specs.Filter.{Filter}
use Rattle.filter.proofs.Filters.{a_filter, passes, few_taps}
use Rattle.immunity.specs.Judgement.{Judgement, either_differs, reported, side_degree, ranks_at, judged}
use Rattle.immunity.proofs.FirstUpTo.{first_degree}
use Rattle.immunity.proofs.Mark.{mark_first}
use Rattle.immunity.proofs.SideDegrees.{side_first, side_most}
use Rattle.judge.specs.declared.JudgeAnswer.{JudgeAnswer}
use Rattle.judge.specs.declared.Report.{Report}
use Rattle.judge.specs.Judge.{judge_checks, judge_outcome, judgement_of, no_point_judgement, found, outcome_of, JudgeContract, JudgeAccepts}

-- what checks that pass show
pub record Passes (n : ℕ) (s f : List ℕ) (m p q l : ℕ) : Type 0 where
  pub filter : Filter n s f
  pub workspace_long : m ≡ 8192
  pub one_long : p ≡ 512
  pub zero_long : q ≡ 512
  pub kept_long : l ≡ 512

-- checks that pass show it
pub judge_passed : (n : ℕ) (s f : List ℕ) (m p q l : ℕ) → verdict (judge_checks s f n m p q l) ≡ Ok tt → Passes n s f m p q l
judge_passed n s f m p q l e =
    let (set, (table, (workspace, (one, (zero, (kept, (tapped, masks))))))) = passed_all (judge_checks s f n m p q l) e in
    record {
      filter = a_filter n s f set table tapped masks;
      workspace_long = eqb-true m 8192 workspace;
      one_long = eqb-true p 512 one;
      zero_long = eqb-true q 512 zero;
      kept_long = eqb-true l 512 kept;
    }

-- what is accepted of any lengths is a filter, and is judged as the definition says
pub accepted_filter : (o s f : List ℕ) (n m p q l : ℕ) (j : Judgement) → judge_outcome o s f n m p q l ≡ accepted j
    → Filter n s f × (judged o n s f ≡ j)
unfolding judge_outcome
accepted_filter o s f n m p q l j e =
    let (holds, same) = accepted_passes (judge_checks s f n m p q l) (accepted (judged o n s f)) j e in
    let shown = judge_passed n s f m p q l holds in
    (shown.filter, cc same)

module _ (o : List ℕ) (n : ℕ) (s f : List ℕ) where
  -- so is what Judge accepts, lent the right lengths
  pub judge_accepted : (j : Judgement) → JudgeAccepts o n s f j → Filter n s f × (judged o n s f ≡ j)
  judge_accepted j e = accepted_filter o s f n 8192 512 512 512 j e

  -- each filter is accepted
  pub judge_accepts : Filter n s f → JudgeAccepts o n s f (judged o n s f)
  unfolding judge_outcome
  judge_accepts h =
      verdict_passes (judge_checks s f n 8192 512 512 512) (accepted (judged o n s f)) (all_passed (judge_checks s f n 8192 512 512 512)
      (eq-eqb (length s) 512 h.set_long, (eq-eqb (length f) 512 h.table_long, (refl, (refl, (refl, (refl, (h.tapped, passes n s f h))))))))

  -- what is accepted of any lengths Judge accepts, lent the right ones
  pub accepts_right : (m p q l : ℕ) (j : Judgement) → judge_outcome o s f n m p q l ≡ accepted j → JudgeAccepts o n s f j
  accepts_right m p q l j e = let (h, is) = accepted_filter o s f n m p q l j e in judge_accepts h ∙ ap accepted is

  -- so does it what it answers, lent buffers of any lengths
  pub found_accepts : (ws ws' : List ℕ) (w w' : Sides (List ℕ)) (m m' : List ℕ) (a : JudgeAnswer)
      → JudgeContract (judge_outcome o s f n (length ws) (length w.one) (length w.zero) (length m)) ws ws' w w' m m' (Ok a)
      → (x : Option Report) → a.report ≡ x → JudgeAccepts o n s f (found x a.ranks w' m')
  found_accepts ws ws' w w' m m' a h x e =
      accepts_right (length ws) (length w.one) (length w.zero) (length m) _ (sym h.answers ∙ ap (λ y. accepted (found y a.ranks w' m')) e)

-- what accepts is an answer with a report that states the judgement, or without one, where it has nothing but ranks and buffers
pub found_judged : (r : Result JudgeAnswer Refusal) (w : Sides (List ℕ)) (m : List ℕ) (j : Judgement) → outcome_of r w m ≡ accepted j
    → (a : JudgeAnswer) × (r ≡ Ok a)
    × (((x : Report) × (a.report ≡ Some x) × (judgement_of x a.ranks w m ≡ j)) ⊎ ((a.report ≡ None) × (no_point_judgement a.ranks w m ≡ j)))
found_judged (Err y) w m j e = absurd (not_both e)
found_judged (Ok a) w m j e = (a, refl, go a.report refl (accepted_value e))
  where
    go : (x : Option Report) → a.report ≡ x → found a.report a.ranks w m ≡ j
        → ((x : Report) × (a.report ≡ Some x) × (judgement_of x a.ranks w m ≡ j)) ⊎ ((a.report ≡ None) × (no_point_judgement a.ranks w m ≡ j))
    go None q s = inr (q, sym (ap (λ y. found y a.ranks w m) q) ∙ s)
    go (Some x) q s = inl (x, q, sym (ap (λ y. found y a.ranks w m) q) ∙ s)

-- what a judgement has fits a report: ranks at ten degrees, degrees up to 9 and a side up to 1
pub record Fits (j : Judgement) : Type 0 where
  pub ranks : length j.ranks ≡ 10
  pub degree : (k : ℕ) → j.degree ≡ Some k → k < 10
  pub side : (i : ℕ) → j.side ≡ Some i → i < 2
  pub one : (d : ℕ) → j.degrees.one ≡ Some d → d < 10
  pub zero : (d : ℕ) → j.degrees.zero ≡ Some d → d < 10
  pub mark : (m : ℕ) → j.mark ≡ Some m → m < 10

module _ (o : List ℕ) (n : ℕ) (s f : List ℕ) (small : n ≤ 9) where
  -- a side's own degree is at most 9
  own_small : (side d : ℕ) → side_degree o n s f side ≡ Some d → d < 10
  own_small side d is = omega (arith, ((side_first o n s f side d).0 is).0)

  -- the judgement of at most nine taps fits
  judged_fits : Fits (judged o n s f)
  unfolding judged reported
  judged_fits = record {
    ranks = length-map (below 10) (ranks_at o n s f) ∙ length_from 0 10;
    degree = λ k e. omega (arith, ((first_degree (either_differs o n s f) n k).0 e).within);
    side = λ i e. omega (arith, side_most o n s f (reported o n s f) i e);
    one = own_small 1;
    zero = own_small 0;
    mark = λ m e. omega (arith, ((mark_first o n s m).0 e).0);
  }

-- so does each that is accepted
pub accepted_fits : (o s f : List ℕ) (n m p q l : ℕ) (j : Judgement) → judge_outcome o s f n m p q l ≡ accepted j → Fits j
accepted_fits o s f n m p q l j e = let (filter, is) = accepted_filter o s f n m p q l j e in rw (← is) (judged_fits o n s f (few_taps n s f filter))
