-- The points of a set outside a part.
--   Outside ss ps a      the point a is one of ss and none of ps
--   is_outside ss ps a   the same as a test (proofs/Outside.antt, `outside_says`)
--   outside ss ps        the points of ss outside ps, in order
use Rattle.std.specs.Prelude.{Bool, not, ◌&&◌, ℕ}
use mathlib.Core.List.{List, Memᴰ}
use Rattle.cube.specs.NumberLists.{select, lists}

-- in the set, and not in the part
abbrev pub Outside : List ℕ → List ℕ → ℕ → Type 0
Outside ss ps a = Memᴰ a ss × (¬ Memᴰ a ps)

-- the same as a test
unfoldable pub is_outside : List ℕ → List ℕ → ℕ → Bool
unfolding lists
is_outside ss ps a = lists ss a && not (lists ps a)

-- those points of the set
abbrev pub outside : List ℕ → List ℕ → List ℕ
outside ss ps = select (is_outside ss ps) ss
