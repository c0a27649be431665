-- The mark on a set.
--   mark_first      it is the first degree up to n at which twice the rank of the set exceeds the number of its points
--   mark_exists     a set with a point has one
--   mark_all        on all points it is n / 2 rounded up
--   equal_most      where neither side differs, twice the rank of the set is at most the number of its points
--   reported_mark   so the reported degree is at most the mark
use mathlib.Core.Path.{◌≡◌, refl}
use mathlib.Core.Logic.{◌↔◌}
use mathlib.Core.Bool.{Bool, true, false}
use mathlib.Core.List.{List}
use Rattle.std.specs.Prelude.{Option, None, Some}
use Prim.Native.Nat.{ℕ, ◌+◌, ◌*◌, ◌/◌, ◌≤◌, ◌<◌}
use native.Mathlib.Omega.{arith}
use native.Mathlib.Decide.{dec_lt}
use lib.ListN.{length}
use borrow.Author.Tests.{ltb-true, ltb-false, lt-ltb, le-ltb}
use Rattle.cube.specs.NumberLists.{below, is_empty, Inside}
use Rattle.cube.specs.Cube.{size}
use Rattle.cube.specs.Mask.{points, well_formed}
use Rattle.cube.proofs.HalfWeights.{light_half}
use Rattle.cube.proofs.Listed.{some_length}
use Rattle.cube.proofs.Masks.{length_from}
use Rattle.order.specs.Order.{Graded}
use Rattle.order.proofs.DegreeColumns.{count_columns}
use Rattle.filter.specs.Part.{part}
use Rattle.filter.proofs.PartPoints.{parts_length}
use Rattle.matrix.specs.Matrix.{rank_of}
use Rattle.matrix.proofs.FullRank.{rank_fewer, rank_full, rank_all}
use Rattle.immunity.specs.Mark.{twice_exceeds, mark_of}
use Rattle.immunity.specs.Judgement.{EqualRanks}
use Rattle.immunity.proofs.FirstUpTo.{first_degree, first_none}
use Rattle.immunity.proofs.Reported.{FirstDiffers}

module _ (o : List ℕ) (n : ℕ) (s : List ℕ) where
  -- the test whether twice the rank exceeds the number of points
  abbrev test : ℕ → Bool
  test d = twice_exceeds (rank_of o n d (points s)) (length (points s))

  -- the mark is the first degree up to n at which it does
  pub mark_first : (m : ℕ) → (mark_of o n s ≡ Some m)
      ↔ ((m ≤ n) × (length (points s) < 2 * rank_of o n m (points s)) × ((d : ℕ) → d < m → 2 * rank_of o n d (points s) ≤ length (points s)))
  unfolding mark_of
  mark_first m = (
    λ e. let r = (first_degree test n m).0 e in (r.within, ltb-true _ _ r.passes, λ d l. ltb-false _ _ (r.before d l)),
    λ (l, h, b). (first_degree test n m).1 (record { within = l; passes = lt-ltb _ _ h; before = λ d i. le-ltb _ _ (b d i) }),
  )

module _ {o : List ℕ} (g : Graded o) {n : ℕ} (small : n ≤ 9) (s : List ℕ) where
  -- a set with a point has a mark: at degree n its rank is its number of points
  pub mark_exists : Inside (size n) (points s) → is_empty (points s) ≡ false → (m : ℕ) × (mark_of o n s ≡ Some m)
  unfolding mark_of
  mark_exists inside has = go (mark_of o n s) refl
    where
      go : (x : Option ℕ) → mark_of o n s ≡ x → (m : ℕ) × (mark_of o n s ≡ Some m)
      go (Some m) e = (m, e)
      go None e = absurd (omega (
        arith,
        ltb-false (length (points s)) (2 * rank_of o n n (points s)) ((first_none (test o n s) n).0 e n (omega arith)),
        rank_full g small s inside,
        (some_length (points s)).0 has,
      ))

  -- on all points it is n / 2 rounded up: the rank at d is the number of columns, which is over half of the points just if n ≤ 2 d
  pub mark_all : points s ≡ below (size n) → mark_of o n s ≡ Some ((n + 1) / 2)
  mark_all all = (mark_first o n s ((n + 1) / 2)).1 (omega arith, over, under)
    where
      half : (d : ℕ) → (length (points s) < 2 * rank_of o n d (points s)) ↔ (n ≤ 2 * d)
      half d = rw (all, length_from 0 (size n), rank_all g small d, count_columns g n d small) (light_half n d)

      over : length (points s) < 2 * rank_of o n ((n + 1) / 2) (points s)
      over = (half ((n + 1) / 2)).1 (omega arith)

      under : (d : ℕ) → d < (n + 1) / 2 → 2 * rank_of o n d (points s) ≤ length (points s)
      under d l = elim (dec_lt (length (points s)) (2 * rank_of o n d (points s))) [ yes h ↦ absurd (omega (arith, (half d).0 h)) | no h ↦ omega arith ]

module _ (o : List ℕ) (n : ℕ) (s f : List ℕ) (formed : well_formed n f ≡ true) where
  -- where neither side differs, twice the rank of the set is the sum of the parts' ranks, so at most the sum of their points
  pub equal_most : (d : ℕ) → EqualRanks o n s f 1 d → EqualRanks o n s f 0 d → 2 * rank_of o n d (points s) ≤ length (points s)
  equal_most d one zero = omega (arith, one, zero, rank_fewer o n d (part 1 s f), rank_fewer o n d (part 0 s f), parts_length n s f formed)

  -- the reported degree is at most the mark
  pub reported_mark : (k m : ℕ) → FirstDiffers o n s f k → mark_of o n s ≡ Some m → k ≤ m
  reported_mark k m r is = elim (dec_lt m k) [
    | yes l ↦ absurd (omega (arith, ((mark_first o n s m).0 is).1, equal_most m (r.before 1 m (omega arith) l) (r.before 0 m (omega arith) l)))
    | no l ↦ omega arith
  ]
