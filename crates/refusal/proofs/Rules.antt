-- Checks that test rules.
--   Tests cs rs       the checks cs test the rules rs, one by one and with the same numbers
--   first_step        one check before others refuses where its rule does not hold, and else they do
--   refused_first     checks refuse by the number of the first rule that does not hold
--   Other k rs        no rule of the list rs has the number k
--   other_broken      so none of them is broken by it
use mathlib.Core.Path.{◌≡◌, refl, sym, ap}
use mathlib.Core.Logic.{◌↔◌, ◌≢◌, ◌⊎◌, inl, inr}
use mathlib.Core.Bool.{Bool, true, false, false≢true}
use mathlib.Core.List.{List, [], ◌∷◌}
use Prim.Native.Nat.{ℕ}
use Rattle.refusal.specs.Refusal.{number_of}
use Rattle.refusal.specs.declared.Refusal.{Refusal}
use Rattle.refusal.specs.Rule.{Rule, ◌unless◌, FirstBroken}
use Rattle.refusal.specs.Outcome.{Outcome, refused, accepted, Check, ◌otherwise◌, after, checked}
use Rattle.refusal.proofs.Outcomes.{not_both}

-- each check tests a rule, and refuses by its number
infixr 20 ◌also◌
pub data Tests : List Check → List Rule → Type 1 where
  nothing : Tests [] []
  ◌also◌ : {t : Bool} {r : Refusal} {P : Type 0} {cs : List Check} {rs : List Rule} → ((t ≡ true) ↔ P) → Tests cs rs → Tests (t otherwise r ∷ cs) (number_of r unless P ∷ rs)

-- one check before others
pub first_step : {A : Type 0} (t : Bool) (r : Refusal) (P Q : Type 0) (o : Outcome A) (k : ℕ) → ((t ≡ true) ↔ P) → ((o ≡ refused k) ↔ Q)
    → (after (t otherwise r) o ≡ refused k) ↔ (((¬ P) × (k ≡ number_of r)) ⊎ (P × Q))
first_step true r P Q o k says later = (
  λ e. inr (says.0 refl, later.0 e),
  λ x. elim x [ inl b ↦ absurd (b.0 (says.0 refl)) | inr b ↦ later.1 b.1 ],
)
first_step false r P Q o k says later = (
  λ e. let same : k ≡ number_of r = cc in inl (λ p. false≢true (says.1 p), same),
  λ x. elim x [ inl b ↦ ap refused (sym b.1) | inr b ↦ absurd (false≢true (says.1 b.0)) ],
)

-- checks refuse by the number of the first rule that does not hold
pub refused_first : {A : Type 0} (a : A) (k : ℕ) {cs : List Check} {rs : List Rule} → Tests cs rs → (checked cs (accepted a) ≡ refused k) ↔ FirstBroken rs k
refused_first a k nothing = (λ e. not_both (sym e), λ x. absurd x)
refused_first a k (◌also◌ {t} {r} {P} {cs} {rs} says later) = first_step t r P (FirstBroken rs k) (checked cs (accepted a)) k says (refused_first a k later)

-- no rule of the list has the number k
abbrev pub Other : ℕ → List Rule → Type 0
Other k [] = Unit {0}
Other k (m unless P ∷ rs) = (k ≢ m) × Other k rs

-- so none of them is broken by it
pub other_broken : (k : ℕ) (rs : List Rule) → Other k rs → FirstBroken rs k → ⊥
other_broken k [] others x = x
other_broken k (m unless P ∷ rs) others x = elim x [ inl b ↦ others.0 b.1 | inr b ↦ other_broken k rs others.1 b.1 ]
