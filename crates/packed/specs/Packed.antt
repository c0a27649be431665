-- Rows packed into numbers of 64 bits, eight numbers to a row: bit c % 64, from the lowest, of number c / 64 is column c.
--   odd a              the lowest bit of a number
--   bits_of n a        the n lowest bits of a number, the lowest first
--   columns n f        the bits of the n numbers f 0, f 1, .. in turn
--   unpack u           the row of 512 columns in the eight numbers of u
--   words ws j         the eight numbers of row j of a list of numbers
--   unpacked ws        the rows of the workspace
--   zeros n            n numbers that are zero
--   number v           the number whose bits are the row v, the first column lowest
--   pack m v           a row as m numbers of 64 bits
use Rattle.std.specs.Prelude.{Bool, List, [], ◌∷◌, ◌++◌, ℕ, zero, suc, ◌+◌, ◌*◌, ◌/◌, ◌%◌, eqb, map, take, drop, replicate, get_or}
use Rattle.gf2.specs.Vector.{Row, digit}

-- the lowest bit of a number
abbrev pub odd : ℕ → Bool
odd a = eqb (a % 2) 1

-- the n lowest bits of a number, the lowest first
unfoldable pub bits_of : ℕ → ℕ → Row
bits_of zero a = []
bits_of (suc n) a = odd a ∷ bits_of n (a / 2)

-- the bits of n numbers in turn
unfoldable pub columns : ℕ → (ℕ → ℕ) → Row
columns zero f = []
columns (suc n) f = bits_of 64 (f 0) ++ columns n (λ k. f (suc k))

-- the row in eight numbers; it has 512 columns whatever the list, as a list of rows does not say how long each is
abbrev pub unpack : List ℕ → Row
unpack u = columns 8 (λ k. get_or u k 0)

-- the eight numbers of row j
abbrev pub words : List ℕ → ℕ → List ℕ
words ws j = take 8 (drop (j * 8) ws)

-- the rows of the workspace, each of eight numbers
abbrev pub unpacked : List (List ℕ) → List Row
unpacked ws = map unpack ws

-- n numbers that are zero
unfoldable pub zeros : ℕ → List ℕ
zeros n = replicate n 0

-- the number whose bits are the row
unfoldable pub number : Row → ℕ
number [] = 0
number (b ∷ v) = number v * 2 + digit b

-- the row as m numbers of 64 bits
unfoldable pub pack : ℕ → Row → List ℕ
pack zero v = []
pack (suc m) v = number (take 64 v) ∷ pack m (drop 64 v)
