-- The numbers of a file, each drawn where the one before it ends.
--   no_taps        n is refused
--   no_set         the list of S is refused
--   no_table       the list of f is refused
--   all_numbers    all are drawn
--   in_order       these laws
use mathlib.Core.Path.{◌≡◌}
use mathlib.Core.List.{List}
use Prim.Native.Nat.{ℕ}
use Rattle.refusal.specs.Outcome.{refused, accepted}
use Rattle.cube.specs.Cube.{size}
use Rattle.varint.specs.Drawn.{◌leaving◌}
use Rattle.point_list.specs.PointList.{point_list, mark_drawn}
use Rattle.file_reader.specs.Progress.{taps_of, numbers}

module _ (b c s : List ℕ) where
  -- n is refused
  pub no_taps : (k : ℕ) → taps_of s ≡ refused k → numbers b c s ≡ refused k
  unfolding numbers
  no_taps k e = rw e

  module _ (n : ℕ) (s₁ : List ℕ) (e₁ : taps_of s ≡ accepted (n leaving s₁)) where
    -- the list of S is refused
    pub no_set : (k : ℕ) → mark_drawn b (point_list (size n) s₁) ≡ refused k → numbers b c s ≡ refused k
    unfolding numbers
    no_set k e = rw (e₁, e)

    module _ (set s₂ : List ℕ) (e₂ : mark_drawn b (point_list (size n) s₁) ≡ accepted (set leaving s₂)) where
      -- the list of f is refused
      pub no_table : (k : ℕ) → mark_drawn c (point_list (size n) s₂) ≡ refused k → numbers b c s ≡ refused k
      unfolding numbers
      no_table k e = rw (e₁, e₂, e)

      -- all are drawn
      pub all_numbers : (table s₃ : List ℕ) → mark_drawn c (point_list (size n) s₂) ≡ accepted (table leaving s₃)
          → numbers b c s ≡ accepted (((n, set), table) leaving s₃)
      unfolding numbers
      all_numbers table s₃ e = rw (e₁, e₂, e)

-- these laws
pub ruleset in_order = (no_taps, no_set, no_table, all_numbers)
