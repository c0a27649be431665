-- Elimination without its functions: docs/SPECIFICATION.md, 'Elimination'. What a row meets, what one point more changes,
-- and which points are kept.
--   FirstOne v c         c is the pivot of the row v
--   Meets rs v w m       the row v is reduced by the rows rs: it meets them in order, m of them are added to it, and w remains
--   Step e e' a v        elimination goes on from e to e' by the point a, whose row is v
--   smaller a ps         the points of ps that are smaller than a
--   KeptPoint row ps a   a is one of the points ps, and its row is no sum of rows of smaller ones
use Rattle.std.specs.Prelude.{◌≡◌, true, false, ◌⊎◌, ℕ, ◌+◌, ◌<◌, ltb}
use mathlib.Core.List.{List, [], ◌∷◌, ◌++◌, map, Memᴰ}
use Rattle.gf2.specs.Vector.{Row, entry, add, Zero, chosen, SumOf}
use Rattle.gf2.specs.Elimination.{Elimination}

-- the row has a one at column c and none before it: c is its pivot, the first nonzero column
abbrev pub FirstOne : Row → ℕ → Type 0
FirstOne v c = (entry v c ≡ true) × ((b : ℕ) → b < c → entry v b ≡ false)

-- the row is reduced by the rows: where it has a one in the pivot of one of them, that one is added to it, one addition each
abbrev pub Meets : List Row → Row → Row → ℕ → Type 0
Meets [] v w m = (w ≡ v) × (m ≡ 0)
Meets (r ∷ rs) v w m =
    (c : ℕ) × FirstOne r c × (((entry v c ≡ true) × ((l : ℕ) × (m ≡ l + 1) × Meets rs (add v r) w l)) ⊎ ((entry v c ≡ false) × Meets rs v w m))

-- the row meets the rows kept so far; what remains, if it is not zero, is kept, and the point with it
pub record Step (e e' : Elimination) (a : ℕ) (v : Row) : Type 0 where
  pub remains : Row
  pub made : ℕ
  pub meets : Meets e.kept v remains made
  pub additions : e'.additions ≡ e.additions + made
  pub not_kept : Zero remains → (e'.kept ≡ e.kept) × (e'.points ≡ e.points)
  pub kept : ¬ Zero remains → (e'.kept ≡ e.kept ++ (remains ∷ [])) × (e'.points ≡ e.points ++ (a ∷ []))

-- the smaller points of a list
abbrev pub smaller : ℕ → List ℕ → List ℕ
smaller a ps = chosen (map (λ q. ltb q a) ps) ps

-- a point whose row is no sum of rows of smaller points
abbrev pub KeptPoint : (ℕ → Row) → List ℕ → ℕ → Type 0
KeptPoint row ps a = Memᴰ a ps × (¬ SumOf (map row (smaller a ps)) (row a))
