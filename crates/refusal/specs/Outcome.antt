-- The outcome of an operation, what every contract says of answers and lent buffers: docs/SPECIFICATION.md, 'Outcomes'.
--   Outcome A            refused by a number, or accepted with values
--   Check                a test of the inputs, and the refusal where it fails: `test otherwise refusal`
--   after c o            the outcome o after the check c: refused where its test fails
--   checked cs o         the outcome o after the checks cs: refused by the first broken check, in order
--   mapped f o           the outcome o, with what f makes of the accepted values
--   left o old new       a lent buffer at exit: `new` where the outcome accepts, as at entry where it refuses
--   left_by o old f      the same, where the accepted values give what is new
--   outcome_of r         the outcome that an answer states
--   outcome_by r f       the same, where f makes the accepted values of what is answered
use Rattle.std.specs.Prelude.{Bool, true, false, List, [], ◌∷◌, ℕ, Result, Ok, Err}
use Rattle.refusal.specs.declared.Refusal.{Refusal}
use Rattle.refusal.specs.Refusal.{number_of}

-- refused by a number, or accepted with values
pub data Outcome (A : Type 0) : Type 0 where
  refused : ℕ → Outcome A
  accepted : A → Outcome A

-- a test of the inputs, and the refusal where it fails
infixl 70 ◌otherwise◌
pub data Check : Type 0 where
  ◌otherwise◌ : Bool → Refusal → Check

-- a check before an outcome: where its test fails it refuses
abbrev pub after : {A : Type 0} → Check → Outcome A → Outcome A
after (true otherwise r) o = o
after (false otherwise r) o = refused (number_of r)

-- refused by the first broken check of a list
abbrev pub checked : {A : Type 0} → List Check → Outcome A → Outcome A
checked [] o = o
checked (c ∷ cs) o = after c (checked cs o)

-- what f makes of the accepted values
abbrev pub mapped : {A : Type 0} {B : Type 0} → (A → B) → Outcome A → Outcome B
mapped f (refused k) = refused k
mapped f (accepted a) = accepted (f a)

-- a refusal leaves a buffer as it was
abbrev pub left : {A : Type 0} {B : Type 0} → Outcome A → B → B → B
left (refused k) old new = old
left (accepted a) old new = new

-- the same, where the accepted values give what is new
abbrev pub left_by : {A : Type 0} {B : Type 0} → Outcome A → B → (A → B) → B
left_by (refused k) old new = old
left_by (accepted a) old new = new a

-- the number of the refusal that is answered, or the value
abbrev pub outcome_of : {A : Type 0} → Result A Refusal → Outcome A
outcome_of (Err x) = refused (number_of x)
outcome_of (Ok a) = accepted a

-- the same, where f makes the accepted values of what is answered
abbrev pub outcome_by : {A : Type 0} {B : Type 0} → Result A Refusal → (A → B) → Outcome B
outcome_by (Err x) f = refused (number_of x)
outcome_by (Ok a) f = accepted (f a)
