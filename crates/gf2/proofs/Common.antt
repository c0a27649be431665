-- The ones that two rows have in common.
--   one_below      a row's ones stand below its length
--   entry_common   a column of the common ones
--   common_self    those of a row and itself
--   common_zero    there are none just if where the one has a one the other has none
use mathlib.Core.Path.{◌≡◌, refl, sym, ap₂, ◌∙◌}
use mathlib.Core.Logic.{◌↔◌}
use mathlib.Core.Bool.{Bool, true, false, ◌&&◌, and-false, false≢true}
use mathlib.Core.List.{[], ◌∷◌}
use Prim.Native.Nat.{ℕ, zero, suc, ◌<◌}
use native.Mathlib.Decide.{dec_lt}
use native.Mathlib.Omega.{arith}
use lib.ListN.{length, get_or-eq_default}
use Rattle.gf2.specs.Vector.{Row, entry}
use Rattle.gf2.specs.Elimination.{is_zero}
use Rattle.gf2.specs.Cut.{common}
use Rattle.gf2.proofs.Reducing.{is_zero_lem}

-- a row's ones stand below its length
pub one_below : (v : Row) (c : ℕ) → entry v c ≡ true → c < length v
one_below v c one = elim (dec_lt c (length v)) [
  | yes l ↦ l
  | no l ↦ absurd (false≢true (sym (get_or-eq_default v false {n = c} (omega arith)) ∙ one))
]

-- a column of the common ones
pub entry_common : (v w : Row) (c : ℕ) → entry (common v w) c ≡ (entry v c && entry w c)
unfolding common
entry_common [] w c = refl
entry_common (x ∷ v) [] c = sym (and-false (entry (x ∷ v) c))
entry_common (x ∷ v) (y ∷ w) zero = refl
entry_common (x ∷ v) (y ∷ w) (suc c) = entry_common v w c

-- a bit and itself
and_self : (b : Bool) → (b && b) ≡ b
and_self true = refl
and_self false = refl

-- those of a row and itself are its own
pub common_self : (v : Row) → common v v ≡ v
unfolding common
common_self [] = refl
common_self (x ∷ v) = ap₂ {C = Row} (λ y w. y ∷ w) (and_self x) (common_self v)

-- there are none just if where the one has a one the other has none
pub common_zero : (v w : Row) → (is_zero (common v w) ≡ true) ↔ ((c : ℕ) → entry v c ≡ true → entry w c ≡ false)
common_zero v w = (
  λ e c one. rw one at (sym (entry_common v w c) ∙ (is_zero_lem (common v w)).0 e c),
  λ h. (is_zero_lem (common v w)).1 (λ c. entry_common v w c ∙ go (entry v c) (entry w c) (h c)),
)
  where
    go : (x y : Bool) → (x ≡ true → y ≡ false) → (x && y) ≡ false
    go true y f = f refl
    go false y f = refl
