-- The points of a mask are taken in the workspace.
--   copied_before     the kept rows stay where a row is copied behind them
--   copied_row        the row stands there
--   takes             a row copied, reduced, and kept or not, is taken as the definition says
--   takes_from        a row taken by its number, where the number has another name
--   points_to b a      the points of the mask b below a
--   eliminates_none   no point is taken yet
--   eliminates_yes    the next number is a point of the mask
--   eliminates_no     it is not
use mathlib.Core.Path.{◌≡◌, refl, sym, ap, ap₂, ◌∙◌}
use mathlib.Core.Bool.{true, false}
use mathlib.Core.List.{List, []}
use Prim.Native.Nat.{ℕ, ◌+◌, ◌≤◌, ◌<◌}
use native.Mathlib.Nat.{le_refl}
use lib.ListN.{length, get_or, set, take, drop}
use lib.Seq.{set-set, get_or-set_same, take-set-le, drop-set-lt, get_or-drop}
use Rattle.cube.specs.NumberLists.{up_from, below, select}
use Rattle.cube.specs.Mask.{member}
use Rattle.cube.proofs.Masks.{select_yes, select_no}
use Rattle.gf2.specs.Vector.{Row}
use Rattle.gf2.specs.Elimination.{is_zero, count, Reduced, reduce, keep_unless, Elimination, take_point, take_points, eliminate}
use Rattle.gf2.specs.Cut.{cut}
use Rattle.gf2.specs.Steps.{row_of, Reduces, one_more_unless}
use Rattle.gf2.proofs.Kept.{eliminate_snoc}
use Rattle.gf2.proofs.Steps.{kept_more}
use Rattle.point_rows.specs.Workspace.{stored}
use Rattle.matrix.specs.Workspace.{Takes, Eliminates}

module _ (t₀ t₁ : List Row) (k : ℕ) (v : Row) (l : k < length t₀) (e : t₁ ≡ set t₀ k v) where
  -- the kept rows stay where a row is copied behind them
  pub copied_before : take k t₁ ≡ take k t₀
  copied_before = ap (take k) e ∙ take-set-le k t₀ k v (le_refl k)

  -- the row stands there
  pub copied_row : row_of t₁ k ≡ v
  copied_row = ap (λ t. row_of t k) e ∙ get_or-set_same t₀ k v [] l

-- a row copied behind the kept rows, reduced, and kept or not, is taken as the definition says
pub takes : (t₀ t₁ t₂ : List Row) (k k' n : ℕ) (v : Row) → k < length t₀ → k < 512 → t₁ ≡ set t₀ k v → Reduces k k t₁ t₂ n
    → k' ≡ one_more_unless (is_zero (row_of t₂ k)) k → k' ≤ k + 1 → n ≤ k → Takes t₀ t₂ k k' v n
takes t₀ t₁ t₂ k k' n v l s e r f g h =
    let same : reduce (take k t₁) (row_of t₁ k) ≡ reduce (take k t₀) v = ap₂ reduce (copied_before t₀ t₁ k v l e) (copied_row t₀ t₁ k v l e) in
    let left : Row = (reduce (take k t₀) v).left in
    let rows : t₂ ≡ set t₀ k left = r.rows ∙ ap₂ (λ t m. set t k m.left) e same ∙ set-set t₀ k v left in
    let there : row_of t₂ k ≡ left = ap (λ t. row_of t k) rows ∙ get_or-set_same t₀ k left [] l in
    record {
      kept = ap₂ take (f ∙ ap (λ w. one_more_unless (is_zero w) k) there) rows ∙ kept_more (is_zero left) t₀ k left l;
      additions = r.additions ∙ ap (λ (m : Reduced). count m.added) same;
      stays = ap (drop 512) rows ∙ drop-set-lt 512 t₀ k left s;
      grows = g;
      few = h;
    }

-- the number of a row under another name
pub takes_from : (t t' : List Row) (k k' c m : ℕ) {from place : ℕ} → from ≡ place → Takes t t' k k' (cut c (row_of t from)) m → Takes t t' k k' (cut c (row_of t place)) m
takes_from t t' k k' c m e h = rw (← e) h

-- the points of the mask below a
abbrev pub points_to : List ℕ → ℕ → List ℕ
points_to b a = select (member b) (below a)

module _ (t : List Row) (c : ℕ) (b : List ℕ) where
  -- no point is taken yet
  pub eliminates_none : Eliminates t t c (points_to b 0) 0 0
  unfolding up_from select take_points
  eliminates_none = record { kept = refl; additions = refl; stays = refl }

  -- the next number is a point of the mask
  pub eliminates_yes : (t' t'' : List Row) (a k n k' m : ℕ) → Eliminates t t' c (points_to b a) k n → member b a ≡ true
      → Takes t' t'' k k' (cut c (row_of t' (512 + a))) m → Eliminates t t'' c (points_to b (a + 1)) k' (n + m)
  unfolding take_point
  eliminates_yes t' t'' a k n k' m h e s =
      let ps : List ℕ = points_to b a in
      let old : Elimination = eliminate (stored t c) ps in
      let next : eliminate (stored t c) (points_to b (a + 1)) ≡ take_point (stored t c) old a =
      ap (eliminate (stored t c)) (select_yes (member b) a e) ∙ eliminate_snoc (stored t c) ps a in
      let row : stored t c a ≡ cut c (row_of t' (512 + a)) =
      ap (cut c) (sym (get_or-drop 512 t a []) ∙ ap (λ x. get_or x a []) (sym h.stays) ∙ get_or-drop 512 t' a []) in
      let same : reduce old.kept (stored t c a) ≡ reduce (take k t') (cut c (row_of t' (512 + a))) = ap₂ reduce h.kept row in
      record {
        kept = ap (λ (x : Elimination). x.kept) next ∙ ap₂ (λ r x. keep_unless (is_zero r.left) x r.left) same h.kept ∙ sym s.kept;
        additions = ap (λ (x : Elimination). x.additions) next ∙ ap₂ (λ r x. x + count r.added) same h.additions ∙ ap (λ x. n + x) (sym s.additions);
        stays = s.stays ∙ h.stays;
      }

  -- it is not
  pub eliminates_no : (t' : List Row) (a k n : ℕ) → Eliminates t t' c (points_to b a) k n → member b a ≡ false → Eliminates t t' c (points_to b (a + 1)) k n
  eliminates_no t' a k n h e = rw (select_no (member b) a e) h
