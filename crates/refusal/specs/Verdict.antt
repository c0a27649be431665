-- The verdict of checks, which code composes by `?`: docs/SPECIFICATION.md, 'Outcomes'.
--   Verdict       passed, or a refusal
--   verdict cs    the verdict of a list of checks: the refusal of the first broken one, or passed where each test holds
--   outcome v o   the outcome o after a verdict: its refusal, or o where the checks are passed
use Rattle.std.specs.Prelude.{true, false, List, [], ◌∷◌, Result, Ok, Err}
use Rattle.refusal.specs.declared.Refusal.{Refusal}
use Rattle.refusal.specs.Refusal.{number_of}
use Rattle.refusal.specs.Outcome.{Outcome, refused, Check, ◌otherwise◌}

-- passed, or a refusal
abbrev pub Verdict : Type 0
Verdict = Result (Unit {0}) Refusal

-- the first broken check of a list refuses
abbrev pub verdict : List Check → Verdict
verdict [] = Ok tt
verdict (true otherwise r ∷ cs) = verdict cs
verdict (false otherwise r ∷ cs) = Err r

-- the outcome after a verdict
abbrev pub outcome : {A : Type 0} → Verdict → Outcome A → Outcome A
outcome (Err x) o = refused (number_of x)
outcome (Ok u) o = o
