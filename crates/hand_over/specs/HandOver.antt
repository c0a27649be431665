-- Hand over: docs/SPECIFICATION.md, 'Hand over'. The part of a witness buffer that holds the witness of a side.
--   right n side k l                 n, the side and the lengths k and l of both buffers are right
--   length_if b n                    N where a test holds, else 0
--   handed n side w                  the part of the buffers w that is handed back: the first N bytes of the side's, or none
--   HandOverContract n side w part   the contract of Hand over: that part
use Rattle.std.specs.Prelude.{◌≡◌, Bool, true, false, ◌&&◌, List, ℕ, eqb, leb, length, take}
use Rattle.cube.specs.Cube.{taps, size}
use Rattle.filter.specs.Sides.{Sides, of_side}

-- n, the side and both lengths are right
abbrev pub right : ℕ → ℕ → ℕ → ℕ → Bool
right n side k l = eqb k 512 && eqb l 512 && taps n && leb side 1

-- N, or 0
abbrev pub length_if : Bool → ℕ → ℕ
length_if true n = size n
length_if false n = 0

-- the first N bytes of the side's buffer, or none
abbrev pub handed : ℕ → ℕ → Sides (List ℕ) → List ℕ
handed n side w = take (length_if (right n side (length w.one) (length w.zero)) n) (of_side side w)

-- the part that is handed back
pub record HandOverContract (n side : ℕ) (w : Sides (List ℕ)) (part : List ℕ) : Type 0 where
  pub answers : part ≡ handed n side w
