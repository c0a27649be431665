-- Rows that are cut, continued by zeros, or met with another.
--   zero_row     the row of 512 zeros
--   cut c v      a row with zeros from column c on
--   padded m v   the first m columns of a row that is continued by zeros
--   common v w   the columns where both rows have a one
use Rattle.std.specs.Prelude.{false, ◌&&◌, [], ◌∷◌, ℕ, zero, suc, replicate}
use Rattle.gf2.specs.Vector.{Row}

-- the row of 512 zeros
unfoldable pub zero_row : Row
zero_row = replicate 512 false

-- the row with zeros from column c on
unfoldable pub cut : ℕ → Row → Row
cut c [] = []
cut zero (x ∷ v) = false ∷ cut zero v
cut (suc c) (x ∷ v) = x ∷ cut c v

-- the first m columns of the row, which is continued by zeros
unfoldable pub padded : ℕ → Row → Row
padded zero v = []
padded (suc m) [] = false ∷ padded m []
padded (suc m) (x ∷ v) = x ∷ padded m v

-- the columns where both rows have a one
unfoldable pub common : Row → Row → Row
common [] w = []
common (x ∷ v) [] = []
common (x ∷ v) (y ∷ w) = (x && y) ∷ common v w
