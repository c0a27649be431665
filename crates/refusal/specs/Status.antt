-- Outcomes as C sees them.
--   status_of o   0 for an acceptance, and else the refusal's number
use Rattle.std.specs.Prelude.{ℕ}
use Rattle.refusal.specs.Outcome.{Outcome, refused, accepted}

-- 0, or the refusal's number
abbrev pub status_of : {A : Type 0} → Outcome A → ℕ
status_of (refused k) = k
status_of (accepted a) = 0
