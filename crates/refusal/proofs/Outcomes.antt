-- What an acceptance and a refusal show.
--   not_both          an outcome is not both refused and accepted
--   accepted_value    what is accepted is one value
--   accepted_answer   an answer that states an acceptance has its value
--   accepted_by       and where f makes the accepted values of it, that value makes them
--   refused_by        one that states a refusal is a refusal of that number
--   number_not_6      6 is the number of no refusal
--   checked_not_6     so checks never refuse by it
--   check_passed      an outcome that accepts after checks has passed the first of them
--   mapped_refused    an outcome that refuses with other values refuses
--   mapped_accepted   one that accepts with other values accepts what they are made of
--   status_refused    a status other than 0 is the number of a refusal
--   status_accepted   0 is that of an acceptance, where no refusal has it
use mathlib.Core.Path.{◌≡◌, refl, sym, ap}
use mathlib.Core.Logic.{◌↔◌, ◌≢◌}
use mathlib.Core.Bool.{Bool, true, false}
use mathlib.Core.List.{List, [], ◌∷◌}
use Prim.Native.Nat.{ℕ}
use native.Mathlib.Omega.{arith}
use Rattle.std.specs.Prelude.{Result, Ok, Err}
use Rattle.refusal.specs.Outcome.{Outcome, refused, accepted, Check, ◌otherwise◌, checked, mapped, left_by, outcome_of, outcome_by}
use Rattle.refusal.specs.Status.{status_of}
use Rattle.refusal.specs.Refusal.{number_of}
use Rattle.refusal.specs.declared.Refusal.{Refusal}
use Rattle.refusal.specs.declared.Refusal.TheVariants.{Length, FileEnds, NumberForm, Taps, Range, Surplus, Bytes, ZeroPolynomial, Degree, Side, RanksDiffer, ShortOutput, Wiring}

-- an outcome is not both refused and accepted
pub not_both : {A : Type 0} {k : ℕ} {a : A} → refused k ≡ accepted a → ⊥
not_both e = cc

-- what is accepted is one value
pub accepted_value : {A : Type 0} {x y : A} → ◌≡◌ {A = Outcome A} (accepted x) (accepted y) → x ≡ y
accepted_value {A} {x} e = ap (λ (o : Outcome A). left_by o x (λ z. z)) e

-- an answer that states an acceptance has its value
pub accepted_answer : {A : Type 0} (r : Result A Refusal) {a : A} → outcome_of r ≡ accepted a → r ≡ Ok a
accepted_answer (Err x) e = cc
accepted_answer (Ok b) e = ap Ok (accepted_value e)

-- and where f makes the accepted values of it, that value makes them
pub accepted_by : {A B : Type 0} (f : A → B) (r : Result A Refusal) {b : B} → outcome_by r f ≡ accepted b → (a : A) × (r ≡ Ok a) × (f a ≡ b)
accepted_by f (Err x) e = absurd (not_both e)
accepted_by f (Ok a) e = (a, refl, accepted_value e)

-- one that states a refusal is a refusal of that number
pub refused_by : {A B : Type 0} (f : A → B) (r : Result A Refusal) {k : ℕ} → outcome_by r f ≡ refused k → (x : Refusal) × (r ≡ Err x) × (number_of x ≡ k)
refused_by f (Err x) e = (x, refl, cc e)
refused_by f (Ok a) e = absurd (not_both (sym e))

-- 6 is the number of no refusal
pub number_not_6 : (x : Refusal) → number_of x ≢ 6
number_not_6 Length e = omega arith
number_not_6 FileEnds e = omega arith
number_not_6 NumberForm e = omega arith
number_not_6 Taps e = omega arith
number_not_6 Range e = omega arith
number_not_6 Surplus e = omega arith
number_not_6 Bytes e = omega arith
number_not_6 ZeroPolynomial e = omega arith
number_not_6 Degree e = omega arith
number_not_6 Side e = omega arith
number_not_6 RanksDiffer e = omega arith
number_not_6 ShortOutput e = omega arith
number_not_6 Wiring e = omega arith

-- so checks never refuse by it
pub checked_not_6 : {A : Type 0} (cs : List Check) (o : Outcome A) → o ≢ refused 6 → checked cs o ≢ refused 6
checked_not_6 [] o h e = h e
checked_not_6 (true otherwise r ∷ cs) o h e = checked_not_6 cs o h e
checked_not_6 (false otherwise r ∷ cs) o h e = number_not_6 r (cc e)

-- an outcome that accepts after checks has passed the first of them
pub check_passed : {A : Type 0} (t : Bool) (r : Refusal) (cs : List Check) (o : Outcome A) (a : A)
    → checked (t otherwise r ∷ cs) o ≡ accepted a → (t ≡ true) × (checked cs o ≡ accepted a)
check_passed true r cs o a e = (refl, e)
check_passed false r cs o a e = absurd (not_both e)

module _ {A : Type 0} {B : Type 0} (f : A → B) where
  -- an outcome that refuses with other values refuses
  pub mapped_refused : (o : Outcome A) {k : ℕ} → mapped f o ≡ refused k → o ≡ refused k
  mapped_refused (refused j) e = cc e
  mapped_refused (accepted a) e = absurd (not_both (sym e))

  -- one that accepts with other values accepts what they are made of
  pub mapped_accepted : (o : Outcome A) {b : B} → mapped f o ≡ accepted b → (a : A) × (o ≡ accepted a) × (f a ≡ b)
  mapped_accepted (refused k) e = absurd (not_both e)
  mapped_accepted (accepted a) e = (a, refl, cc e)

-- a status other than 0 is the number of a refusal
pub status_refused : {A : Type 0} (o : Outcome A) (k : ℕ) → k ≢ 0 → (status_of o ≡ k) ↔ (o ≡ refused k)
status_refused (refused j) k h = (λ e. ap refused e, λ e. cc e)
status_refused (accepted a) k h = (λ e. absurd (h (sym e)), λ e. absurd (not_both (sym e)))

-- 0 is the status of an acceptance, where no refusal has it
pub status_accepted : {A : Type 0} (o : Outcome A) → o ≢ refused 0 → (status_of o ≡ 0) ↔ ((a : A) × (o ≡ accepted a))
status_accepted (refused k) h = (λ e. absurd (h (ap refused e)), λ x. absurd (not_both x.1))
status_accepted (accepted a) h = (λ e. (a, refl), λ x. refl)
