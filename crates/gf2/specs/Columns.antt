-- The columns of a list of rows, as rows.
--   column c rs           the entries of the rows at column c
--   columns_from c n rs   n columns from column c on
--   columns_before c rs   the columns before column c
--   NewColumns rs x       x is one only at columns that are no sum of the columns before them: the kept columns of a witness
use Rattle.std.specs.Prelude.{◌≡◌, true, List, [], ◌∷◌, map, ℕ, zero, suc}
use Rattle.gf2.specs.Vector.{Row, entry, SumOf}

-- the entries of the rows at one column
abbrev pub column : ℕ → List Row → Row
column c rs = map (λ r. entry r c) rs

-- n columns from column c on
unfoldable pub columns_from : ℕ → ℕ → List Row → List Row
columns_from c zero rs = []
columns_from c (suc n) rs = column c rs ∷ columns_from (suc c) n rs

-- the columns before column c
abbrev pub columns_before : ℕ → List Row → List Row
columns_before c rs = columns_from 0 c rs

-- x is one only at columns that are no sum of the columns before them
abbrev pub NewColumns : List Row → Row → Type 0
NewColumns rs x = (c : ℕ) → entry x c ≡ true → ¬ SumOf (columns_before c rs) (column c rs)
