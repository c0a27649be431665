-- Combinations in the workspace: row 512 + a is for the point a, first its row, then a row over points.
--   followed c k a x ps t      the rows t after c columns of the row of the point a were put behind the first k rows and reduced by them, while its place, with x there, followed them
--   Combines t t' c qs k ps    the points qs are taken: the combination of each of the k kept rows stands at its place of ps
--   OutsidePlaces ps k b       the first k places are of points, none of which is outside the mask b
use Rattle.std.specs.Prelude.{◌≡◌, false, ℕ, ◌+◌, set, take}
use mathlib.Core.List.{List, map, Memᴰ}
use Rattle.cube.specs.Mask.{member}
use Rattle.gf2.specs.Vector.{Row}
use Rattle.gf2.specs.Elimination.{eliminate}
use Rattle.gf2.specs.Cut.{padded}
use Rattle.gf2.specs.Steps.{row_of, Places, reduced_both}
use Rattle.point_rows.specs.Workspace.{stored}

-- c columns of the row of the point a are reduced by the first k rows, and its place, with the row x there, follows
unfoldable pub followed : ℕ → ℕ → ℕ → Row → List ℕ → List Row → List Row
followed c k a x ps t = reduced_both k k (512 + a) ps (set (set t k (stored t c a)) (512 + a) x)

-- c columns of the rows in the places of the points qs are taken: k are kept, the first of t', each with its combination at its place, and all other points' rows stay
pub record Combines (t t' : List Row) (c : ℕ) (qs : List ℕ) (k : ℕ) (ps : List ℕ) : Type 0 where
  pub kept : (eliminate (stored t c) qs).kept ≡ take k t'
  pub combinations : map (row_of t') (take k ps) ≡ map (padded 512) (eliminate (stored t c) qs).combinations
  pub places : take k ps ≡ map (λ q. 512 + q) (eliminate (stored t c) qs).points
  pub stays : (a : ℕ) → ¬ Memᴰ a qs → row_of t' (512 + a) ≡ row_of t (512 + a)

-- the first k places are of points, none of which is outside the mask
abbrev pub OutsidePlaces : List ℕ → ℕ → List ℕ → Type 0
OutsidePlaces ps k b = (a : ℕ) → member b a ≡ false → Places ps k (512 + a)
