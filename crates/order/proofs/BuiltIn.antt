-- The built-in order is graded: tests that antt computes over the whole table.
--   order_key u        rises with the weight, and with the number within a weight
--   graded_rises       of two places of the built-in order, the later has the higher key
--   graded_is_graded   the built-in order is graded
use mathlib.Core.Path.{◌≡◌, refl, sym, ap, subst}
use mathlib.Core.Bool.{Bool, true}
use mathlib.Core.Logic.{◌⊎◌, inl, inr}
use Prim.Native.Nat.{ℕ, zero, suc, ◌+◌, ◌*◌, ◌≤◌, ◌<◌}
use native.Mathlib.Decide.{dec_lt}
use native.Mathlib.Nat.{eq-or-lt_of_le, le_of_suc-le-suc}
use native.Mathlib.Omega.{arith}
use lib.Count.{ones}
use lib.Dec.{ltb}
use lib.ListN.{length, get_or}
use borrow.Author.Tests.{ltb-true}
use Rattle.cube.specs.NumberLists.{all_below}
use Rattle.cube.specs.Cube.{weight}
use Rattle.cube.proofs.AllBelow.{all_says}
use Rattle.order.specs.Order.{Graded}
use Rattle.order.specs.BuiltIn.{graded}

-- rises with the weight, and with the number within a weight
unfoldable pub order_key : ℕ → ℕ
unfolding ones
order_key u = weight u * 512 + u

-- the entry at a place
entry : ℕ → ℕ
unfolding graded
entry i = get_or graded i 0

-- it is below 512
small : ℕ → Bool
unfolding entry
small i = ltb (entry i) 512

-- the next entry has a higher key
rises : ℕ → Bool
unfolding entry order_key
rises i = ltb (order_key (entry i)) (order_key (entry (suc i)))

-- each entry is
small_all : all_below 512 small ≡ true
unfolding small all_below
small_all = refl

-- at each place
rises_all : all_below 511 rises ≡ true
unfolding rises all_below
rises_all = refl

-- there are 512
long : length graded ≡ 512
unfolding graded
long = refl

-- of two places of the built-in order, the later has the higher key
pub graded_rises : (i j : ℕ) → i < j → j < 512 → order_key (get_or graded i 0) < order_key (get_or graded j 0)
unfolding rises entry
graded_rises i zero h b = absurd (omega arith)
graded_rises i (suc j) h b = go (λ q. graded_rises i j q (omega arith)) (eq-or-lt_of_le (le_of_suc-le-suc h))
  where
    next : order_key (get_or graded j 0) < order_key (get_or graded (suc j) 0)
    next = ltb-true _ _ ((all_says 511 rises).0 rises_all j (omega arith))

    go : (i < j → order_key (get_or graded i 0) < order_key (get_or graded j 0)) → (i ≡ j) ⊎ (i < j) → order_key (get_or graded i 0) < order_key (get_or graded (suc j) 0)
    go rest (inl e) = subst (λ (m : ℕ). order_key (get_or graded m 0) < order_key (get_or graded (suc j) 0)) (sym e) next
    go rest (inr q) = omega (arith, rest q, next)

-- what stands at a place is below 512
graded_inside : (i : ℕ) → i < 512 → get_or graded i 0 < 512
unfolding small entry
graded_inside i h = ltb-true (get_or graded i 0) 512 ((all_says 512 small).0 small_all i h)

-- so of two numbers below 512 that of the lower key weighs no more
by_weight : (u v : ℕ) → u < 512 → v < 512 → order_key u < order_key v → weight u ≤ weight v
unfolding order_key
by_weight u v hu hv h = omega arith

-- the built-in order is graded
pub graded_is_graded : Graded graded
graded_is_graded = record {
  long = long;
  inside = graded_inside;
  once = once;
  rising = rising;
}
  where
    once : (i j : ℕ) → i < 512 → j < 512 → get_or graded i 0 ≡ get_or graded j 0 → i ≡ j
    once i j h l e = elim (dec_lt i j) [
      | yes q ↦ absurd (omega (arith, graded_rises i j q l, ap order_key e))
      | no q ↦ elim (dec_lt j i) [ yes r ↦ absurd (omega (arith, graded_rises j i r h, ap order_key e)) | no r ↦ omega arith ]
    ]

    rising : (i j : ℕ) → i ≤ j → j < 512 → weight (get_or graded i 0) ≤ weight (get_or graded j 0)
    rising i j l h = elim (dec_lt i j) [
      | yes q ↦ by_weight _ _ (graded_inside i (omega arith)) (graded_inside j h) (graded_rises i j q h)
      | no q ↦ let e : i ≡ j = omega arith in rw e (omega arith)
    ]
