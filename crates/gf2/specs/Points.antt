-- Rows over points: column q of such a row stands for point q.
--   Rising ps              each point is less than all later ones
--   support s qs           the points of qs where s is one
--   Expresses row qs s v   s is one only at points of qs, and the rows of the points where it is one sum to v
use Rattle.std.specs.Prelude.{List, [], ◌∷◌, map, ℕ, ◌<◌}
use Rattle.gf2.specs.Vector.{Row, entry, total, Same, OnlyAt, Each, chosen}

-- each point is less than all later ones
abbrev pub Rising : List ℕ → Type 0
Rising [] = Unit {0}
Rising (a ∷ ps) = Each (λ b. a < b) ps × Rising ps

-- the points of the list where a row over points is one
abbrev pub support : Row → List ℕ → List ℕ
support s qs = chosen (map (entry s) qs) qs

-- the row s over points is one only at points of the list, and the rows of the points where it is one sum to v
pub record Expresses (row : ℕ → Row) (qs : List ℕ) (s v : Row) : Type 0 where
  pub only : OnlyAt qs s
  pub sums : Same (total (map row (support s qs))) v
