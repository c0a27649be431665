-- What the inputs of an operation are held to, beside the checks that test it: docs/SPECIFICATION.md, 'Outcomes'.
--   Rule               a condition on the inputs, and the number that refuses unless it holds: `number unless condition`
--   FirstBroken rs k   k is the number of the first of the rules rs that does not hold
use Rattle.std.specs.Prelude.{◌≡◌, ◌⊎◌, List, [], ◌∷◌, ℕ}

-- a condition on the inputs, and the number of the refusal where it does not hold
infixl 70 ◌unless◌
pub data Rule : Type 1 where
  ◌unless◌ : ℕ → Type 0 → Rule

-- the rules before it hold, and it does not
abbrev pub FirstBroken : List Rule → ℕ → Type 0
FirstBroken [] k = ⊥
FirstBroken (m unless P ∷ rs) k = ((¬ P) × (k ≡ m)) ⊎ (P × FirstBroken rs k)
