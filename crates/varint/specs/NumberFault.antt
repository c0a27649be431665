-- The faults of numbers.
--   NumberFault s k   the bytes s begin with no number; k is the refusal's number
use Rattle.std.specs.Prelude.{◌⊎◌, List, [], ◌∷◌, ℕ, ◌≤◌, ◌<◌}
use Rattle.refusal.specs.declared.Refusal.TheVariants.{FileEnds, NumberForm}
use Rattle.refusal.specs.Refusal.{number_of}

-- the file ends before a number or inside it, or the second byte of the number is 0 or has the top bit set
pub data NumberFault : List ℕ → ℕ → Type 0 where
  ends_before : NumberFault [] (number_of FileEnds)
  ends_inside : (x : ℕ) → 128 ≤ x → NumberFault (x ∷ []) (number_of FileEnds)
  second_byte : (x y : ℕ) (s : List ℕ) → 128 ≤ x → (y < 1) ⊎ (128 ≤ y) → NumberFault (x ∷ y ∷ s) (number_of NumberForm)
