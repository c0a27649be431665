-- The sums of the points outside a part.
--   sums_none       no point is passed yet
--   sums_no         the next point is not in the set, or in the part
--   sums_yes        it is in the set and outside the part, and nothing is left of its row
--   no_sum          or something is
use mathlib.Core.Path.{◌≡◌, refl, sym, ap, ap₂, ◌∙◌}
use mathlib.Core.Bool.{true, false, false≢true}
use mathlib.Core.List.{List, map}
use Prim.Native.Nat.{ℕ, ◌+◌, ◌<◌}
use native.Mathlib.Decide.{dec_lt}
use native.Mathlib.Omega.{arith}
use lib.ListN.{length, take}
use Rattle.cube.specs.Mask.{points}
use Rattle.gf2.specs.Vector.{Row, add, total, chosen}
use Rattle.gf2.specs.Elimination.{is_zero, Reduced, reduce}
use Rattle.gf2.specs.Cut.{cut, zero_row}
use Rattle.gf2.specs.Steps.{row_of, Places}
use Rattle.filter.specs.Outside.{is_outside}
use Rattle.point_rows.specs.Workspace.{stored}
use Rattle.matrix.specs.Combination.{followed}
use Rattle.matrix.proofs.Following.{followed_left, followed_sum, followed_other, followed_places, followed_front}
use Rattle.certify.specs.Sums.{sum_at, Sums, NoSum}

module _ (t : List Row) (c k : ℕ) (ps s b : List ℕ) where
  -- no point is passed yet
  pub sums_none : Sums t t c k ps s b 0
  sums_none = record { kept = refl; combinations = refl; later = λ j h. refl; sums = λ j h e. absurd (omega arith); nothing_left = λ j h e. absurd (omega arith) }

  module _ (t' : List Row) (a : ℕ) (h : Sums t t' c k ps s b a) where
    -- the next point is not in the set, or in the part
    pub sums_no : is_outside (points s) (points b) a ≡ false → Sums t t' c k ps s b (a + 1)
    sums_no e = record {
      kept = h.kept;
      combinations = h.combinations;
      later = λ j l. h.later j (omega arith);
      sums = λ j l o. h.sums j (earlier j l o) o;
      nothing_left = λ j l o. h.nothing_left j (earlier j l o) o;
    }
      where
        earlier : (j : ℕ) → j < a + 1 → is_outside (points s) (points b) j ≡ true → j < a
        earlier j l o = elim (dec_lt j a) [
          | yes g ↦ g
          | no g ↦ let i : j ≡ a = omega arith in absurd (false≢true (sym e ∙ ap (is_outside (points s) (points b)) (sym i) ∙ o))
        ]

    -- it is reduced as in the first rows
    same : reduce (take k t') (stored t' c a) ≡ reduce (take k t) (stored t c a)
    same = ap₂ reduce h.kept (ap (cut c) (h.later a (omega arith)))

    module _ (t'' : List Row) (long : length t' ≡ 1024) (small : k < 512) (point : a < 512) (rows : t'' ≡ followed c k a zero_row ps t') where
      -- what is left of its row
      left : row_of t'' k ≡ (reduce (take k t) (stored t c a)).left
      left = ap (λ x. row_of x k) rows ∙ followed_left c k a zero_row ps t' long small point ∙ ap (λ (r : Reduced). r.left) same

      -- it is in the set and outside the part, and something is left of its row
      pub no_sum : is_outside (points s) (points b) a ≡ true → is_zero (row_of t'' k) ≡ false → NoSum t c k s b
      no_sum o e = record { point = a; below = point; outside = o; left = ap is_zero (sym left) ∙ e }

      -- it is in the set and outside the part, and nothing is left of its row
      pub sums_yes : length ps ≡ 512 → Places ps k (512 + a) → is_zero (row_of t'' k) ≡ true → Sums t t'' c k ps s b (a + 1)
      unfolding sum_at
      sums_yes room apart none =
          record {
            kept = ap (take k) rows ∙ followed_front c k a zero_row ps t' long small point ∙ h.kept;
            combinations = ap (λ x. map (row_of x) (take k ps)) rows ∙ followed_places c k a zero_row ps t' long small point room apart ∙ h.combinations;
            later = λ j l. other j (omega arith) ∙ h.later j (omega arith);
            sums = λ j l o. elim (dec_lt j a) [
              | yes g ↦ other j (omega arith) ∙ h.sums j g o
              | no g ↦ let i : j ≡ a = omega arith in ap (λ x. row_of t'' (512 + x)) i ∙ here ∙ ap (sum_at t c k ps) (sym i)
            ];
            nothing_left = λ j l o. elim (dec_lt j a) [
              | yes g ↦ h.nothing_left j g o
              | no g ↦ let i : j ≡ a = omega arith in ap (λ x. is_zero (reduce (take k t) (stored t c x)).left) i ∙ ap is_zero (sym left) ∙ none
            ];
          }
        where
          other : (j : ℕ) → (j ≡ a → ⊥) → row_of t'' (512 + j) ≡ row_of t' (512 + j)
          other j g = ap (λ x. row_of x (512 + j)) rows ∙ followed_other c k a zero_row ps t' long small point (512 + j) (omega arith) (λ i. g (omega arith))

          here : row_of t'' (512 + a) ≡ sum_at t c k ps a
          here =
              ap (λ x. row_of x (512 + a)) rows
              ∙ followed_sum c k a zero_row ps t' long small point room apart
              ∙ ap₂ (λ (r : Reduced) x. add zero_row (total (chosen r.added x))) same h.combinations
