-- What an outcome that draws a value comes from.
--   draw_accepted     the value that was drawn, and what followed it
--   draw_refused     no value was drawn, or what followed it was refused
--   after_refused    the check was broken, or what followed it was refused
use mathlib.Core.Path.{◌≡◌, refl}
use mathlib.Core.List.{List}
use mathlib.Core.Bool.{Bool, true, false}
use Prim.Native.Nat.{ℕ}
use Rattle.refusal.specs.Outcome.{Outcome, refused, accepted, ◌otherwise◌, after}
use Rattle.refusal.specs.declared.Refusal.{Refusal}
use Rattle.refusal.specs.Refusal.{number_of}
use Rattle.refusal.proofs.Outcomes.{not_both}
use Rattle.varint.specs.Drawn.{Drawn, ◌leaving◌, draw}

-- the value that was drawn, and what followed it
pub draw_accepted : {A B : Type 0} {b : B} (o : Outcome (Drawn A)) (f : A → List ℕ → Outcome B) → draw o f ≡ accepted b
    → (v : A) × (rest : List ℕ) × (o ≡ accepted (v leaving rest)) × (f v rest ≡ accepted b)
draw_accepted (refused k) f e = absurd (not_both e)
draw_accepted (accepted (v leaving rest)) f e = (v, rest, refl, e)

-- no value was drawn, or what followed it was refused
pub draw_refused : {A B : Type 0} {k : ℕ} (P : Type 0) (o : Outcome (Drawn A)) (f : A → List ℕ → Outcome B) → draw o f ≡ refused k
    → (o ≡ refused k → P) → ((v : A) (rest : List ℕ) → o ≡ accepted (v leaving rest) → f v rest ≡ refused k → P) → P
draw_refused P (refused k) f e none some = none (cc)
draw_refused P (accepted (v leaving rest)) f e none some = some v rest refl e

-- the check was broken, or what followed it was refused
pub after_refused : {A : Type 0} {k : ℕ} (P : Type 0) (t : Bool) (r : Refusal) (o : Outcome A) → after (t otherwise r) o ≡ refused k
    → (t ≡ false → number_of r ≡ k → P) → (t ≡ true → o ≡ refused k → P) → P
after_refused P true r o e broken passed = passed refl e
after_refused P false r o e broken passed = broken refl (cc)
