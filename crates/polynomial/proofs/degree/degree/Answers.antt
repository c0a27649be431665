-- A broken check is the refusal answered; checks that pass give the length that largest_weight asks for, and its result is the degree answered.
use mathlib.Core.Path.{◌≡◌, sym, ap, ◌∙◌}
use mathlib.Core.List.{List}
use Prim.Native.Nat.{ℕ}
use Rattle.std.specs.Prelude.{Ok, Err}
use Rattle.std.proofs.lemmas.Result.{err_from_is_err_and}
use borrow.Author.Tests.{eqb-true}
use lib.ListN.{length}
use Rattle.cube.specs.NumberLists.{largest}
use Rattle.cube.specs.Cube.{weight}
use Rattle.refusal.specs.Outcome.{accepted}
use Rattle.refusal.specs.declared.Refusal.{Refusal}
use Rattle.refusal.specs.Verdict.{verdict}
use Rattle.refusal.proofs.Verdicts.{passed_all, verdict_refuses, verdict_passes}
use Rattle.polynomial.specs.Degree.{exponents, degree_checks, degree_outcome, DegreeContract}
use Rattle.polynomial.proofs.degree.degree.Goals as goal

module _ (n : ℕ) (b : List ℕ) where
  -- checks that pass show the length
  long : verdict (degree_checks n b) ≡ Ok tt → length b ≡ 512
  long e = let (right, _) = passed_all (degree_checks n b) e in eqb-true (length b) 512 right

  -- a broken check
  refuses : {x : Refusal} → verdict (degree_checks n b) ≡ Err x → DegreeContract n b (Err x)
  unfolding degree_outcome
  refuses e = record { answers = sym (verdict_refuses (degree_checks n b) _ e) }

  -- no check is broken
  accepts : {k : ℕ} → verdict (degree_checks n b) ≡ Ok tt → k ≡ largest weight (exponents b) → DegreeContract n b (Ok k)
  unfolding degree_outcome
  accepts e h = record { answers = ap accepted h ∙ sym (verdict_passes (degree_checks n b) _ e) }

pub largest_weight-requires : goal.largest_weight-requires
largest_weight-requires c = long c.args.n _ (sym c.in_ok-degree_checks.ensures)

pub returns-in_err-degree_checks : goal.returns-in_err-degree_checks
returns-in_err-degree_checks c = let p = err_from_is_err_and c.from_residual.result c.from_residual.ensures.1 in rw (p.1, p.2) (refuses _ _ (sym c.in_err-degree_checks.ensures))

pub returns : goal.returns
returns c = accepts _ _ (sym c.in_ok-degree_checks.ensures) c.largest_weight.ensures
