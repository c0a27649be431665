-- The row of a point is reduced behind the kept rows, and its place follows.
--   start_kept          the kept rows stay while the row is put behind them and its place is written
--   start_unit          a place that is cleared and then given a one
--   followed_left       what is left of the row stands behind the kept rows
--   followed_other      all other rows stay
--   followed_kept       the kept rows, with what is left of the row or without
--   followed_front      the kept rows stay
--   followed_sum        what stands in the point's place
--   followed_places     those at the places among them
use mathlib.Core.Path.{◌≡◌, ap, ap₂, ◌∙◌}
use mathlib.Core.Logic.{◌≢◌}
use mathlib.Core.Bool.{Bool, true, false}
use mathlib.Core.List.{List, [], map}
use Prim.Native.Nat.{ℕ, ◌+◌, ◌≤◌, ◌<◌}
use native.Mathlib.Nat.{le_refl}
use native.Mathlib.Omega.{arith}
use lib.ListN.{length, set, take, length-set}
use lib.Seq.{lt-length-set, get_or-set_same, get_or-set_other, set-set, take-set-le}
use Rattle.gf2.specs.Vector.{Row, add, total, unit, chosen}
use Rattle.gf2.specs.Elimination.{Reduced, reduce, keep_unless}
use Rattle.gf2.specs.Cut.{zero_row, padded}
use Rattle.gf2.specs.Steps.{row_of, Places, one_more_unless}
use Rattle.gf2.proofs.Padded.{unit_padded}
use Rattle.gf2.proofs.Steps.{kept_more}
use Rattle.gf2.proofs.BothRows.{both_left, both_sum, both_front, both_other, places_rows}
use Rattle.point_rows.specs.Workspace.{stored}
use Rattle.matrix.specs.Combination.{followed}

-- a number or the next is at most the next
one_more : (b : Bool) (k : ℕ) → one_more_unless b k ≤ k + 1
one_more true k = omega arith
one_more false k = omega arith

-- the kept rows stay while a row is put behind them and a place is written
pub start_kept : (t : List Row) (k a : ℕ) (v x : Row) → k < 512 → take k (set (set t k v) (512 + a) x) ≡ take k t
start_kept t k a v x small = take-set-le k (set t k v) (512 + a) x (omega arith) ∙ take-set-le k t k v (le_refl k)

-- a place that is cleared and then given a one
pub start_unit : (t : List Row) (a : ℕ) (t₁ t₂ : List Row) → length t ≡ 1024 → a < 512 → t₁ ≡ set t (512 + a) zero_row
    → t₂ ≡ set t₁ (512 + a) (set (row_of t₁ (512 + a)) a true) → t₂ ≡ set t (512 + a) (padded 512 (unit a))
start_unit t a t₁ t₂ long point e f =
    let there : row_of t₁ (512 + a) ≡ zero_row = ap (λ s. row_of s (512 + a)) e ∙ get_or-set_same t (512 + a) zero_row [] (omega arith) in
    f
    ∙ ap₂ (λ (s : List Row) v. set s (512 + a) (set v a true)) e there
    ∙ set-set t (512 + a) zero_row (set zero_row a true)
    ∙ ap (set t (512 + a)) (unit_padded a point)

module _ (c k a : ℕ) (x : Row) (ps : List ℕ) (t : List Row) (long : length t ≡ 1024) (small : k < 512) (point : a < 512) where
  -- what the row is reduced to, and which rows are added to it
  abbrev left_of : Reduced
  left_of = reduce (take k t) (stored t c a)

  -- the rows before
  abbrev start : List Row
  start = set (set t k (stored t c a)) (512 + a) x

  -- the row behind them
  start_row : row_of start k ≡ stored t c a
  start_row = get_or-set_other (set t k (stored t c a)) (512 + a) k x [] (omega arith) ∙ get_or-set_same t k (stored t c a) [] (omega arith)

  -- it is reduced as the definition says
  start_reduced : reduce (take k start) (row_of start k) ≡ left_of
  start_reduced = ap₂ reduce (start_kept t k a (stored t c a) x small) start_row

  -- all other rows
  start_other : (j : ℕ) → j ≢ k → j ≢ 512 + a → row_of start j ≡ row_of t j
  start_other j g h = get_or-set_other (set t k (stored t c a)) (512 + a) j x [] h ∙ get_or-set_other t k j (stored t c a) [] g

  -- there are as many
  start_length : length start ≡ 1024
  start_length = length-set (set t k (stored t c a)) (512 + a) x ∙ length-set t k (stored t c a) ∙ long

  -- what is left of the row stands behind the kept rows
  pub followed_left : row_of (followed c k a x ps t) k ≡ left_of.left
  unfolding followed
  followed_left = both_left k (512 + a) ps start k (omega arith) (omega (arith, start_length)) ∙ ap (λ (r : Reduced). r.left) start_reduced

  -- all other rows stay
  pub followed_other : (j : ℕ) → j ≢ k → j ≢ 512 + a → row_of (followed c k a x ps t) j ≡ row_of t j
  unfolding followed
  followed_other j g h = both_other k (512 + a) ps start k j g h ∙ start_other j g h

  -- the kept rows, with what is left of the row or without
  pub followed_kept : (b : Bool) → take (one_more_unless b k) (followed c k a x ps t) ≡ keep_unless b (take k t) left_of.left
  unfolding followed
  followed_kept b =
      both_front k (512 + a) ps start k (one_more_unless b k) (omega (arith, one_more b k))
      ∙ kept_more b start k (reduce (take k start) (row_of start k)).left (omega (arith, start_length))
      ∙ ap₂ (keep_unless b) (start_kept t k a (stored t c a) x small) (ap (λ (r : Reduced). r.left) start_reduced)

  -- the kept rows stay
  pub followed_front : take k (followed c k a x ps t) ≡ take k t
  unfolding keep_unless
  followed_front = followed_kept true

  module _ (room : length ps ≡ 512) (apart : Places ps k (512 + a)) where
    -- what stands in the point's place
    pub followed_sum : row_of (followed c k a x ps t) (512 + a) ≡ add x (total (chosen left_of.added (map (row_of t) (take k ps))))
    unfolding followed
    followed_sum =
        let there : row_of start (512 + a) ≡ x = get_or-set_same (set t k (stored t c a)) (512 + a) x [] (lt-length-set t k (stored t c a) (omega arith)) in
        let rows : map (row_of start) (take k ps) ≡ map (row_of t) (take k ps) =
        places_rows ps k (512 + a) t start (omega arith) apart (λ j g h. start_other j (omega arith) h) in
        both_sum k (512 + a) ps start k (omega (arith, start_length))
        ∙ ap₂ add there (ap₂ (λ (r : Reduced) z. total (chosen r.added z)) start_reduced rows)

    -- the rows at the places stay
    pub followed_places : map (row_of (followed c k a x ps t)) (take k ps) ≡ map (row_of t) (take k ps)
    followed_places = places_rows ps k (512 + a) t (followed c k a x ps t) (omega arith) apart (λ j g h. followed_other j (omega arith) h)
