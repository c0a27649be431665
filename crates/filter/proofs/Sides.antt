-- What exists for each side.
--   of_both     what a function gives for both sides, at one of them
--   of_mapped   what a function makes of both things, at one side
use mathlib.Core.Path.{◌≡◌, refl}
use mathlib.Core.Bool.{Bool, true, false}
use Prim.Native.Nat.{ℕ, zero, suc, ◌≤◌}
use native.Mathlib.Omega.{arith}
use lib.Dec.{eqb}
use Rattle.filter.specs.Sides.{Sides, pair, side_if, of_side, both_sides}

-- at a side it is what the function gives there
pub of_both : {A : Type 0} (g : ℕ → A) (side : ℕ) → side ≤ 1 → of_side side (both_sides g) ≡ g side
of_both g zero l = refl
of_both g (suc zero) l = refl
of_both g (suc (suc side)) l = absurd (omega arith)

-- at a side it is what the function makes of the thing there
pub of_mapped : {A B : Type 0} (g : A → B) (p : Sides A) (side : ℕ) → of_side side (pair (g p.one) (g p.zero)) ≡ g (of_side side p)
of_mapped g p side = go (eqb side 1)
  where
    go : (b : Bool) → side_if b (pair (g p.one) (g p.zero)) ≡ g (side_if b p)
    go true = refl
    go false = refl
