-- The number that bytes begin with, by its groups.
--   varint_none     there is no byte
--   varint_cut      there is one, and another should follow
--   varint_second   the second byte is 0, or its top bit is set
--   varint_one      one group
--   varint_two      two groups
--   by_groups       these laws
use mathlib.Core.Path.{◌≡◌, refl}
use mathlib.Core.Logic.{◌⊎◌, inl, inr}
use mathlib.Core.List.{List, [], ◌∷◌}
use Prim.Native.Nat.{ℕ, ◌+◌, ◌-◌, ◌*◌, ◌≤◌, ◌<◌}
use native.Mathlib.Omega.{arith}
use borrow.Author.Tests.{lt-ltb, le-ltb, lt-leb, le-leb}
use Rattle.refusal.specs.declared.Refusal.TheVariants.{FileEnds, NumberForm}
use Rattle.refusal.specs.Refusal.{number_of}
use Rattle.refusal.specs.Outcome.{refused, accepted}
use Rattle.varint.specs.Drawn.{◌leaving◌}
use Rattle.varint.specs.Varint.{second_group, groups, varint}

-- there is no byte
pub varint_none : varint [] ≡ refused (number_of FileEnds)
unfolding varint
varint_none = refl

-- there is one, and another should follow
pub varint_cut : (x : ℕ) → 128 ≤ x → varint (x ∷ []) ≡ refused (number_of FileEnds)
unfolding varint groups second_group
varint_cut x h = rw (le-ltb x 128 h)

-- the second byte is 0, or its top bit is set
pub varint_second : (x y : ℕ) (s : List ℕ) → 128 ≤ x → (y < 1) ⊎ (127 < y) → varint (x ∷ y ∷ s) ≡ refused (number_of NumberForm)
unfolding varint groups second_group
varint_second x y s h (inl l) = rw (le-ltb x 128 h, lt-leb 1 y l)
varint_second x y s h (inr l) = rw (le-ltb x 128 h, le-leb 1 y (omega arith), le-ltb y 128 l)

-- one group
pub varint_one : (x : ℕ) (s : List ℕ) → x < 128 → varint (x ∷ s) ≡ accepted (x leaving s)
unfolding varint groups
varint_one x s l = rw (lt-ltb x 128 l)

-- two groups
pub varint_two : (x y : ℕ) (s : List ℕ) → 128 ≤ x → 1 ≤ y → y < 128 → varint (x ∷ y ∷ s) ≡ accepted ((x - 128 + 128 * y) leaving s)
unfolding varint groups second_group
varint_two x y s h l u = rw (le-ltb x 128 h, le-leb 1 y l, lt-ltb y 128 u)

-- these laws
pub ruleset by_groups = (varint_none, varint_cut, varint_second, varint_one, varint_two)
