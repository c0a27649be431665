-- The points of a mask are tried in the workspace until the row of one is kept.
--   Tried t t' k c b a   the points of the mask b below a were tried: nothing was left of their rows, and the kept rows stay
--   tried_none           no point is tried yet
--   tried_other          the next number is no point of the mask
--   tried_all            all points were tried: there is no new point
--   tried_zero           it is one, and nothing is left of its row: there are as many kept rows
--   tried_new            it is one, and its row is kept: it is the first new point
use mathlib.Core.Path.{◌≡◌, refl, sym, ap, ap₂, ◌∙◌}
use mathlib.Core.Bool.{Bool, true, false, cond, not}
use mathlib.Core.List.{List, [], ◌∷◌}
use Rattle.std.specs.Prelude.{Some}
use Rattle.std.specs.List.{find}
use Prim.Native.Nat.{ℕ, ◌+◌, ◌≤◌, ◌<◌}
use native.Mathlib.Omega.{arith}
use lib.ListN.{length, get_or, take, drop, length-append}
use lib.Seq.{length-take-le, get_or-drop}
use Rattle.cube.specs.Mask.{points}
use Rattle.cube.proofs.Masks.{marked_from, marked_all, marked_here, marked_later, marked_none}
use Rattle.gf2.specs.Vector.{Row}
use Rattle.gf2.specs.Elimination.{is_zero, reduce, keep_unless}
use Rattle.gf2.specs.Cut.{cut}
use Rattle.gf2.specs.Steps.{row_of, one_more_unless}
use Rattle.point_rows.specs.Workspace.{stored}
use Rattle.matrix.specs.Workspace.{Takes}
use Rattle.witness.specs.NewRow.{is_left, kept_with, FindsNew}

-- the points of the mask below a were tried: the kept rows stay, and the first new point is among those from a on
pub record Tried (t t' : List Row) (k c : ℕ) (b : List ℕ) (a : ℕ) : Type 0 where
  pub kept : take k t' ≡ take k t
  pub stays : drop 512 t' ≡ drop 512 t
  pub rest : find (is_left (take k t) (stored t c)) (points b) ≡ find (is_left (take k t) (stored t c)) (marked_from b a)

module _ (t : List Row) (k c : ℕ) (b : List ℕ) where
  -- no point is tried yet
  pub tried_none : Tried t t k c b 0
  tried_none = record { kept = refl; stays = refl; rest = ap (find (is_left (take k t) (stored t c))) (marked_all b) }

  module _ (t' : List Row) (a : ℕ) (h : Tried t t' k c b a) where
    -- the next number is no point of the mask
    pub tried_other : a < length b → (get_or b a 0 ≡ 1 → ⊥) → Tried t t' k c b (a + 1)
    tried_other l e = record {
      kept = h.kept;
      stays = h.stays;
      rest = h.rest ∙ ap (find (is_left (take k t) (stored t c))) (marked_later b a l e);
    }

    -- all points were tried: there is no new point
    pub tried_all : length b ≤ a → FindsNew t t' k k c (points b)
    tried_all l = record {
      kept = h.kept ∙ sym (ap (kept_with (take k t) (stored t c)) (h.rest ∙ ap (find (is_left (take k t) (stored t c))) (marked_none b a l)));
      stays = h.stays;
      grows = omega arith;
    }

    module _ (t'' : List Row) (k' m : ℕ) (long : length t ≡ 1024) (long'' : length t'' ≡ 1024) (small : k < 512)
        (l : a < length b) (e : get_or b a 0 ≡ 1) (s : Takes t' t'' k k' (cut c (row_of t' (512 + a))) m) where
      -- what is left of the row
      abbrev left : Row
      left = (reduce (take k t) (stored t c a)).left

      -- its row stands in its place
      kept_left : take k' t'' ≡ keep_unless (is_zero left) (take k t) left
      kept_left =
          let row : cut c (row_of t' (512 + a)) ≡ stored t c a =
          ap (cut c) (sym (get_or-drop 512 t' a []) ∙ ap (λ x. get_or x a []) h.stays ∙ get_or-drop 512 t a []) in
          s.kept ∙ ap₂ (λ x v. keep_unless (is_zero (reduce x v).left) x (reduce x v).left) h.kept row

      -- the first new point among those from a on
      first_here : (z : Bool) → is_zero left ≡ z
          → find (is_left (take k t) (stored t c)) (points b) ≡ cond (not z) (Some a) (find (is_left (take k t) (stored t c)) (marked_from b (a + 1)))
      first_here z q =
          h.rest ∙ ap (find (is_left (take k t) (stored t c))) (marked_here b a l e)
          ∙ ap (λ y. cond (not y) (Some a) (find (is_left (take k t) (stored t c)) (marked_from b (a + 1)))) q

      -- how many rows are kept
      count : k' ≡ length (keep_unless (is_zero left) (take k t) left)
      count = sym (length-take-le k' t'' (omega (arith, s.grows))) ∙ ap length kept_left

      -- how many rows are kept, where it is known whether something is left
      count_known : (z : Bool) → is_zero left ≡ z → k' ≡ one_more_unless z k
      unfolding keep_unless
      count_known true q = count ∙ ap (λ y. length (keep_unless y (take k t) left)) q ∙ length-take-le k t (omega arith)
      count_known false q =
          count ∙ ap (λ y. length (keep_unless y (take k t) left)) q ∙ length-append (take k t) (left ∷ []) ∙ ap (λ x. x + 1) (length-take-le k t (omega arith))

      -- nothing is left of its row
      pub tried_zero : k' ≤ k → (k' ≡ k) × Tried t t'' k c b (a + 1)
      unfolding keep_unless
      tried_zero few = go (is_zero left) refl
        where
          go : (z : Bool) → is_zero left ≡ z → (k' ≡ k) × Tried t t'' k c b (a + 1)
          go true q =
              let same : k' ≡ k = count_known true q in (
                same,
                record {
                  kept = ap (λ x. take x t'') (sym same) ∙ kept_left ∙ ap (λ y. keep_unless y (take k t) left) q;
                  stays = s.stays ∙ h.stays;
                  rest = first_here true q;
                },
              )
          go false q = absurd (omega (arith, count_known false q))

      -- its row is kept: it is the first new point
      pub tried_new : k < k' → FindsNew t t'' k k' c (points b)
      unfolding keep_unless
      tried_new more = go (is_zero left) refl
        where
          go : (z : Bool) → is_zero left ≡ z → FindsNew t t'' k k' c (points b)
          go true q = absurd (omega (arith, count_known true q))
          go false q = record {
            kept = kept_left ∙ ap (λ y. keep_unless y (take k t) left) q ∙ sym (ap (kept_with (take k t) (stored t c)) (first_here false q));
            stays = s.stays ∙ h.stays;
            grows = s.grows;
          }
