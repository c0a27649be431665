-- Sets, tables and coefficients as they are lent, 512 bytes: docs/SPECIFICATION.md, 'Buffers'.
--   bits_then_zeros m b   the first m bytes of b are 0 or 1, the others 0
--   well_formed n b       byte a is 0 or 1 for a below N, and 0 from N on: the 0/1/0 rule
--   WellFormed n b        the same as a proposition (proofs/Masks.antt, `formed_says`)
--   member b a            the mask b marks the number a
--   marked b              the numbers that the mask b marks, rising
--   points b              the same of a set: its points
--   HasPoint b            there is one
--   byte b                1 for true, 0 for false
--   with_ones us b        the bytes b with 1 at each of the numbers us
--   mask t                the 512 bytes that mark the numbers below 512 that pass a test
use Rattle.std.specs.Prelude.{◌≡◌, Bool, true, false, ◌&&◌, ℕ, zero, suc, ◌≤◌, ◌<◌, eqb, leb, length, get_or, set}
use mathlib.Core.List.{List, [], ◌∷◌, map, Memᴰ}
use Rattle.cube.specs.NumberLists.{below, select}
use Rattle.cube.specs.Cube.{size}

-- the first m bytes are 0 or 1, the others 0
unfoldable pub bits_then_zeros : ℕ → List ℕ → Bool
bits_then_zeros m [] = true
bits_then_zeros zero (x ∷ xs) = eqb x 0 && bits_then_zeros zero xs
bits_then_zeros (suc m) (x ∷ xs) = leb x 1 && bits_then_zeros m xs

-- the 0/1/0 rule
abbrev pub well_formed : ℕ → List ℕ → Bool
well_formed n b = bits_then_zeros (size n) b

-- the same as a proposition
abbrev pub WellFormed : ℕ → List ℕ → Type 0
WellFormed n b = ((a : ℕ) → a < size n → get_or b a 0 ≤ 1) × ((a : ℕ) → size n ≤ a → get_or b a 0 ≡ 0)

-- the mask marks the number
abbrev pub member : List ℕ → ℕ → Bool
member b a = eqb (get_or b a 0) 1

-- the marked numbers, rising
abbrev pub marked : List ℕ → List ℕ
marked b = select (member b) (below (length b))

-- the points of a set
abbrev pub points : List ℕ → List ℕ
points b = marked b

-- a point of a set
abbrev pub HasPoint : List ℕ → Type 0
HasPoint b = (a : ℕ) × Memᴰ a (points b)

-- a bit as a byte
abbrev pub byte : Bool → ℕ
byte true = 1
byte false = 0

-- 1 at each of the numbers
unfoldable pub with_ones : List ℕ → List ℕ → List ℕ
with_ones [] b = b
with_ones (u ∷ us) b = with_ones us (set b u 1)

-- the 512 bytes that mark what passes a test
abbrev pub mask : (ℕ → Bool) → List ℕ
mask t = map (λ u. byte (t u)) (below 512)
