-- A point before those that an outcome draws.
--   before_accepted   the points after the first
--   before_refused   the points after the first were refused
use mathlib.Core.Path.{◌≡◌, sym}
use mathlib.Core.List.{List, ◌∷◌}
use Prim.Native.Nat.{ℕ}
use Rattle.refusal.specs.Outcome.{Outcome, refused, accepted}
use Rattle.refusal.proofs.Outcomes.{not_both}
use Rattle.varint.specs.Drawn.{Drawn, ◌leaving◌}
use Rattle.point_list.specs.PointList.{before}

-- the points after the first
pub before_accepted : {ps rest : List ℕ} (p : ℕ) (o : Outcome (Drawn (List ℕ))) → before p o ≡ accepted (ps leaving rest)
    → (qs : List ℕ) × (ps ≡ p ∷ qs) × (o ≡ accepted (qs leaving rest))
before_accepted p (refused k) e = absurd (not_both e)
before_accepted p (accepted (qs leaving rest)) e = (qs, cc, cc)

-- the points after the first were refused
pub before_refused : {k : ℕ} (p : ℕ) (o : Outcome (Drawn (List ℕ))) → before p o ≡ refused k → o ≡ refused k
before_refused p (refused k) e = cc
before_refused p (accepted (qs leaving rest)) e = absurd (not_both (sym e))
