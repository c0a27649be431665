-- A number is refused just if it has a fault.
--   number_fault   a number that is refused has a fault
--   fault_number   one that has a fault is refused by its number
--   number_cut     a number that ends too early has at most one byte
use mathlib.Core.Path.{◌≡◌, refl, sym}
use mathlib.Core.Logic.{inl, inr}
use mathlib.Core.Bool.{Bool, true, false}
use mathlib.Core.List.{List, [], ◌∷◌}
use Prim.Native.Nat.{ℕ, ◌≤◌}
use native.Mathlib.Omega.{arith}
use lib.Dec.{ltb, leb}
use lib.ListN.{length}
use borrow.Author.Tests.{ltb-false, leb-false}
use Rattle.refusal.specs.declared.Refusal.TheVariants.{NumberForm}
use Rattle.refusal.specs.Outcome.{Outcome, refused}
use Rattle.refusal.proofs.Outcomes.{not_both}
use Rattle.varint.specs.Varint.{second_group, groups, varint}
use Rattle.varint.specs.NumberFault.{NumberFault, ends_before, ends_inside, second_byte}
use Rattle.varint.proofs.Draws.{after_refused}
use Rattle.varint.proofs.Groups.{varint_none, varint_cut, varint_second}

-- two numbers by which an outcome is refused
same_number : {A : Type 0} {j k : ℕ} → ◌≡◌ {A = Outcome A} (refused j) (refused k) → j ≡ k
same_number e = cc

-- a second byte
second_fault : (x : ℕ) (s : List ℕ) {k : ℕ} → 128 ≤ x → second_group x s ≡ refused k → NumberFault (x ∷ s) k
unfolding second_group
second_fault x [] h e = rw (← same_number e) (ends_inside x h)
second_fault x (y ∷ s) {k} h e =
    after_refused (NumberFault (x ∷ y ∷ s) k) (leb 1 y) NumberForm _ e (λ f q. rw (← q) (second_byte x y s h (inl (leb-false 1 y f)))) (λ _ e₁.
    after_refused (NumberFault (x ∷ y ∷ s) k) (ltb y 128) NumberForm _ e₁ (λ f q. rw (← q) (second_byte x y s h (inr (ltb-false y 128 f)))) (λ _ e₂.
    absurd (not_both (sym e₂))))

-- a number
pub number_fault : (s : List ℕ) {k : ℕ} → varint s ≡ refused k → NumberFault s k
unfolding varint groups
number_fault [] e = rw (← same_number e) ends_before
number_fault (x ∷ s) {k} e = go (ltb x 128) refl e
  where
    go : (t : Bool) → ltb x 128 ≡ t → groups t x s ≡ refused k → NumberFault (x ∷ s) k
    go true t q = absurd (not_both (sym q))
    go false t q = second_fault x s (ltb-false x 128 t) q

-- what has a fault is refused by its number: of a number
pub fault_number : {s : List ℕ} {k : ℕ} → NumberFault s k → varint s ≡ refused k
fault_number ends_before = varint_none
fault_number (ends_inside x h) = varint_cut x h
fault_number (second_byte x y s h l) = varint_second x y s h l

-- a number that ends too early has at most one byte
pub number_cut : {s : List ℕ} {k : ℕ} → NumberFault s k → k ≡ 2 → length s ≤ 1
number_cut ends_before e = omega arith
number_cut (ends_inside x h) e = omega arith
number_cut (second_byte x y s h l) e = absurd (omega arith)
