-- Rows over the field of two elements, and sums of rows.
--   Row                a row: its entries by column
--   entry v c          entry c of a row, zero past its end
--   add v w            the sum of two rows, entry by entry
--   total rs           the sum of all rows of a list; of no rows it is zero
--   dot v w            the parity of the columns where both rows have a one
--   unit c             the row with a one at column c only
--   Zero v             every entry is zero
--   Same v w           every entry is the same
--   OnlyAt cs v        v is one only at columns of the list cs
--   Each P xs          P holds of each member of a list: this is how 'each row' and 'each point' are said everywhere
--   Choice             which members of a list are chosen, by place
--   chosen c xs        the chosen members, in order
--   SumOf rs v         v is a sum of rows of the list rs
--   Orthogonal x rs    x is even with each row of rs
--   Separates rs v x   x is even with each row of rs, and odd with v
--   digit b            1 or 0
use Rattle.std.specs.Prelude.{◌≡◌, Bool, true, false, ◌&&◌, ℕ, zero, suc, get_or}
use Rattle.std.specs.Bool.{xor}
use mathlib.Core.List.{List, [], ◌∷◌, Memᴰ}

-- a row: its entries by column
abbrev pub Row : Type 0
Row = List Bool

-- entry c of a row, zero past its end
abbrev pub entry : Row → ℕ → Bool
entry v c = get_or v c false

-- the sum of two rows, entry by entry; the shorter one is continued by zeros
unfoldable pub add : Row → Row → Row
add [] w = w
add (x ∷ v) [] = x ∷ v
add (x ∷ v) (y ∷ w) = xor x y ∷ add v w

-- the sum of all rows of a list; of no rows it is zero
unfoldable pub total : List Row → Row
total [] = []
total (r ∷ rs) = add r (total rs)

-- the parity of the common ones of two rows
unfoldable pub dot : Row → Row → Bool
dot [] w = false
dot (x ∷ v) [] = false
dot (x ∷ v) (y ∷ w) = xor (x && y) (dot v w)

-- the row with a one at column c only
unfoldable pub unit : ℕ → Row
unit zero = true ∷ []
unit (suc c) = false ∷ unit c

-- every entry is zero
abbrev pub Zero : Row → Type 0
Zero v = (c : ℕ) → entry v c ≡ false

-- two rows agree at every column
abbrev pub Same : Row → Row → Type 0
Same v w = (c : ℕ) → entry v c ≡ entry w c

-- v is one only at columns of the list
abbrev pub OnlyAt : List ℕ → Row → Type 0
OnlyAt cs v = (c : ℕ) → entry v c ≡ true → Memᴰ c cs

-- P holds of each member of the list
abbrev pub Each : {A : Type 0} → (A → Type 0) → List A → Type 0
Each P [] = Unit {0}
Each P (x ∷ xs) = P x × Each P xs

-- a choice of some members of a list, by place
abbrev pub Choice : Type 0
Choice = List Bool

-- the chosen members, in order
unfoldable pub chosen : {A : Type 0} → Choice → List A → List A
chosen [] xs = []
chosen (b ∷ bs) [] = []
chosen (true ∷ bs) (x ∷ xs) = x ∷ chosen bs xs
chosen (false ∷ bs) (x ∷ xs) = chosen bs xs

-- v is a sum of rows of the list
pub record SumOf (rs : List Row) (v : Row) : Type 0 where
  pub choice : Choice
  pub sums : Same (total (chosen choice rs)) v

-- x is even with each row of the list
abbrev pub Orthogonal : Row → List Row → Type 0
Orthogonal x rs = Each (λ r. dot x r ≡ false) rs

-- x is even with each row of the list, and odd with v
abbrev pub Separates : List Row → Row → Row → Type 0
Separates rs v x = Orthogonal x rs × (dot x v ≡ true)

-- 1 or 0
abbrev pub digit : Bool → ℕ
digit true = 1
digit false = 0
