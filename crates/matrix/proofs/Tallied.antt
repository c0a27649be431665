-- The points of a mask are taken in the workspace, whatever the number of columns.
--   takes_all              a row copied behind the kept rows, reduced with a tally, and kept or not
--   eliminates_all_none    no point is taken yet
--   eliminates_all_yes     the next number is a point of the mask
--   eliminates_all_no      it is not
--   tallied_kept           the pivots below a column are as many as the rows kept of the columns before it
use mathlib.Core.Path.{◌≡◌, refl, sym, ap, ap₂, ◌∙◌}
use mathlib.Core.Bool.{true, false}
use mathlib.Core.List.{List, []}
use Prim.Native.Nat.{ℕ, ◌+◌, ◌≤◌, ◌<◌}
use native.Mathlib.Omega.{arith}
use lib.ListN.{length, get_or, set, take}
use lib.Seq.{length-take-le, get_or-drop}
use Rattle.cube.specs.NumberLists.{up_from, select}
use Rattle.cube.specs.Mask.{member}
use Rattle.cube.proofs.Masks.{select_yes, select_no}
use Rattle.gf2.specs.Vector.{Row, Each}
use Rattle.gf2.specs.Elimination.{pivot, is_zero, count, reduce, keep_unless, Elimination, take_point, take_points, eliminate}
use Rattle.gf2.specs.Cut.{cut}
use Rattle.gf2.specs.Steps.{row_of, one_more_unless, Pivots}
use Rattle.packed.specs.Packed.{zeros}
use Rattle.gf2.specs.Prefix.{kept_to, count_to, sum_to, Tallies}
use Rattle.gf2.proofs.Each.{each_taken}
use Rattle.gf2.proofs.Reducing.{reduce_few}
use Rattle.gf2.proofs.Kept.{eliminate_snoc}
use Rattle.gf2.proofs.Prefix.{kept_cut, left_cut, length_kept, pivots_taken}
use Rattle.packed.proofs.Tally.{sum_zeros, tallies_reduces}
use Rattle.point_rows.specs.Workspace.{stored}
use Rattle.matrix.specs.Workspace.{Takes, TakesAll, EliminatesAll}
use Rattle.matrix.proofs.Taking.{copied_before, copied_row, takes, points_to}
use Rattle.matrix.proofs.KeptPoints.{Wide}

-- a row copied behind the kept rows, reduced with a tally, and kept or not
pub takes_all : (t₀ t₁ t₂ : List Row) (k k' : ℕ) (v : Row) (xs xs' : List ℕ) → k < length t₀ → k < 512 → Wide t₀ → length v ≡ 512 → t₁ ≡ set t₀ k v → Tallies k k t₁ t₂ xs xs'
    → k' ≡ one_more_unless (is_zero (row_of t₂ k)) k → k' ≤ k + 1 → TakesAll t₀ t₂ k k' v xs xs'
takes_all t₀ t₁ t₂ k k' v xs xs' l s long wide e r f g =
    let before = copied_before t₀ t₁ k v l e in
    let few : count (reduce (take k t₁) (row_of t₁ k)).added ≤ k =
    omega (arith, reduce_few (take k t₁) (row_of t₁ k), ap length before, length-take-le k t₀ (omega arith)) in
    let one : Takes t₀ t₂ k k' v (count (reduce (take k t₁) (row_of t₁ k)).added) =
    takes t₀ t₁ t₂ k k' (count (reduce (take k t₁) (row_of t₁ k)).added) v l s e (tallies_reduces k k t₁ t₂ xs xs' r) f g few in
    let rows : Each (λ w. length w ≡ 512) (take k t₀) = (each_taken (λ w. length w ≡ 512) [] k t₀ (omega arith)).1 (λ j i. long j (omega arith)) in
    record {
      kept = λ c. ap (kept_to c) one.kept ∙ kept_cut c (take k t₀) (reduce (take k t₀) v).left
          ∙ ap (λ w. keep_unless (is_zero w) (kept_to c (take k t₀)) w) (sym (left_cut c 512 (take k t₀) v rows wide));
      additions = λ c. r.additions c ∙ ap₂ (λ t w. sum_to c xs + count (reduce (kept_to c t) (cut c w)).added) before (copied_row t₀ t₁ k v l e);
      stays = one.stays;
      grows = g;
      few = r.few;
    }

module _ (t : List Row) (b : List ℕ) where
  -- no point is taken yet
  pub eliminates_all_none : (n : ℕ) → EliminatesAll t t (points_to b 0) 0 (zeros n)
  unfolding up_from select take_points kept_to
  eliminates_all_none n = record { kept = λ c. refl; additions = λ c. sym (sum_zeros c n); stays = refl }

  -- the next number is a point of the mask
  pub eliminates_all_yes : (t' t'' : List Row) (a k k' : ℕ) (xs xs' : List ℕ) → EliminatesAll t t' (points_to b a) k xs → member b a ≡ true
      → TakesAll t' t'' k k' (row_of t' (512 + a)) xs xs' → EliminatesAll t t'' (points_to b (a + 1)) k' xs'
  unfolding take_point
  eliminates_all_yes t' t'' a k k' xs xs' h e s = record {
    kept = λ c. ap (λ (x : Elimination). x.kept) (next c) ∙ ap₂ (λ r x. keep_unless (is_zero r.left) x r.left) (same c) (h.kept c) ∙ sym (s.kept c);
    additions = λ c. ap (λ (x : Elimination). x.additions) (next c) ∙ ap₂ (λ r x. x + count r.added) (same c) (h.additions c) ∙ sym (s.additions c);
    stays = s.stays ∙ h.stays;
  }
    where
      ps : List ℕ
      ps = points_to b a

      next : (c : ℕ) → eliminate (stored t c) (points_to b (a + 1)) ≡ take_point (stored t c) (eliminate (stored t c) ps) a
      next c = ap (eliminate (stored t c)) (select_yes (member b) a e) ∙ eliminate_snoc (stored t c) ps a

      row : row_of t (512 + a) ≡ row_of t' (512 + a)
      row = sym (get_or-drop 512 t a []) ∙ ap (λ x. get_or x a []) (sym h.stays) ∙ get_or-drop 512 t' a []

      same : (c : ℕ) → reduce (eliminate (stored t c) ps).kept (stored t c a) ≡ reduce (kept_to c (take k t')) (cut c (row_of t' (512 + a)))
      same c = ap₂ reduce (h.kept c) (ap (cut c) row)

  -- it is not
  pub eliminates_all_no : (t' : List Row) (a k : ℕ) (xs : List ℕ) → EliminatesAll t t' (points_to b a) k xs → member b a ≡ false → EliminatesAll t t' (points_to b (a + 1)) k xs
  eliminates_all_no t' a k xs h e = rw (select_no (member b) a e) h

-- the pivots below c are as many as the rows kept of the first c columns
pub tallied_kept : (t : List Row) (ps : List ℕ) (t' : List Row) (k : ℕ) (xs : List ℕ) → EliminatesAll t t' ps k xs
    → (pivots : List ℕ) → length pivots ≡ 512 → length t' ≡ 1024 → Wide t' → k ≤ 512 → Pivots pivots t' k
    → (c : ℕ) → count_to c (take k pivots) ≡ length (eliminate (stored t c) ps).kept
tallied_kept t ps t' k xs h pivots l m long small p c =
    let ones : Each (λ r. pivot r < length r) (take k t') =
    (each_taken (λ r. pivot r < length r) [] k t' (omega arith)).1 (λ j i. omega (arith, (p j i).0, (p j i).1, long j (omega arith))) in
    ap (count_to c) (sym (pivots_taken pivots t' k (omega arith) (omega arith) p)) ∙ sym (length_kept c (take k t') ones) ∙ ap length (sym (h.kept c))
