-- What elimination keeps and what it costs.
--   take_points_append   points may be taken in two parts
--   eliminate_snoc       the last point may be taken by itself
--   kept_echelon         the kept rows are an echelon list
--   rows_sums            each row is a sum of kept rows
--   kept_sums            each kept row is a sum of rows
--   same_sums            kept rows and the rows of all points have the same sums
--   sum_reduced          a row is a sum of the rows of the points exactly when nothing of it is left
--   points_chosen        the kept points are chosen from the points
--   points_among         each of them is one of the points
--   points_rising        the kept points rise if the points do
--   points_independent   the rows of the kept points are independent
--   points_sums          the row of each point is a sum of the rows of the kept points
--   keeps_rank           the rank is the number of kept rows
--   additions_bound      of m points of which r are kept: twice the additions and r * (r + 1) are at most twice m * r
--   additions_most       the same with a division: at most m * r - r * (r + 1) / 2 additions are made
--   equal_kept           some of the points keep as many rows as all just if each point's row is a sum of rows of those
--   point_kept           a point is kept exactly when its row is no sum of the rows of the points before it
use mathlib.Core.Path.{◌≡◌, refl, sym, ap, ◌∙◌, subst}
use mathlib.Core.Logic.{◌↔◌, ◌⊎◌, inl, inr, ⊎_elim}
use mathlib.Core.Bool.{Bool, true, false, true≢false}
use mathlib.Core.List.Memᴰ
use mathlib.Core.List.{List, [], ◌∷◌, ◌++◌, map, Memᴰ}
use Prim.Native.Nat.{ℕ, ◌+◌, ◌-◌, ◌*◌, ◌/◌, ◌≤◌, ◌<◌}
use native.Mathlib.Omega.{arith}
use lib.ListN.{length}
use Rattle.gf2.specs.Vector.{Row, Zero, Each, Choice, chosen, SumOf}
use Rattle.gf2.specs.Rank.{Independent, Rank}
use Rattle.gf2.specs.Elimination.{is_zero, Echelon, reduce, keep_unless, Elimination, nothing, take_point, take_points, eliminate}
use Rattle.gf2.specs.Points.{Rising}
use Rattle.gf2.proofs.Each.{each_map, each_chosen, each_member, chosen_among}
use Rattle.gf2.proofs.Chosen.{map_chosen}
use Rattle.gf2.proofs.Sums.{sum_trans}
use Rattle.gf2.proofs.Rank.{rank_of_basis, equal_point_ranks}
use Rattle.gf2.proofs.Reducing.{is_zero_lem, reduce_zero}
use Rattle.gf2.proofs.Points.{rising_middle, rising_chosen}
use Rattle.gf2.proofs.Eliminate.{taken}

module _ (row : ℕ → Row) where
  -- points may be taken in two parts
  pub take_points_append : (e : Elimination) (ps qs : List ℕ) → take_points row e (ps ++ qs) ≡ take_points row (take_points row e ps) qs
  unfolding take_points
  take_points_append e [] qs = refl
  take_points_append e (a ∷ ps) qs = take_points_append (take_point row e a) ps qs

  -- the last point may be taken by itself
  pub eliminate_snoc : (ps : List ℕ) (a : ℕ) → eliminate row (ps ++ (a ∷ [])) ≡ take_point row (eliminate row ps) a
  unfolding take_points
  eliminate_snoc ps a = take_points_append nothing ps (a ∷ [])

  -- a kept point stays
  point_stays : (e : Elimination) (ps : List ℕ) {q : ℕ} → Memᴰ q e.points → Memᴰ q (take_points row e ps).points
  unfolding take_points take_point keep_unless
  point_stays e [] m = m
  point_stays e (a ∷ ps) {q} m = point_stays (take_point row e a) ps (go (is_zero (reduce e.kept (row a)).left))
    where
      go : (z : Bool) → Memᴰ q (keep_unless z e.points a)
      go true = m
      go false = Memᴰ.append_left (a ∷ []) m

  -- a kept point was kept before, or is one of those taken
  point_among : (e : Elimination) (ps : List ℕ) {q : ℕ} → Memᴰ q (take_points row e ps).points
      → Memᴰ q e.points ⊎ Memᴰ q ps
  unfolding take_points take_point keep_unless
  point_among e [] m = inl m
  point_among e (a ∷ ps) {q} m =
      ⊎_elim (go (is_zero (reduce e.kept (row a)).left)) (λ n. inr (Memᴰ.tail n)) (point_among (take_point row e a) ps m)
    where
      go : (z : Bool) → Memᴰ q (keep_unless z e.points a) → Memᴰ q e.points ⊎ Memᴰ q (a ∷ ps)
      go true n = inl n
      go false n = ⊎_elim inl (λ o. inr (Memᴰ.head (Memᴰ.eq_of_singleton o))) (Memᴰ.append_cases e.points n)

module _ (row : ℕ → Row) (ps : List ℕ) where
  -- the kept rows are an echelon list
  pub kept_echelon : Echelon (eliminate row ps).kept
  kept_echelon = (taken row ps).reduction.echelon

  -- each row is a sum of kept rows
  pub rows_sums : Each (SumOf (eliminate row ps).kept) (map row ps)
  rows_sums = (taken row ps).reduction.row_sums

  -- each kept row is a sum of rows
  pub kept_sums : Each (SumOf (map row ps)) (eliminate row ps).kept
  kept_sums = each_map (λ v. sum_trans (taken row ps).reduction.marked_sums) (eliminate row ps).kept (taken row ps).reduction.kept_sums

  -- kept rows and the rows of all points have the same sums
  pub same_sums : (v : Row) → SumOf (eliminate row ps).kept v ↔ SumOf (map row ps) v
  same_sums v = (sum_trans kept_sums, sum_trans rows_sums)

  -- a row is a sum of the rows of the points exactly when nothing of it is left
  pub sum_reduced : (v : Row) → (is_zero (reduce (eliminate row ps).kept v).left ≡ true) ↔ SumOf (map row ps) v
  sum_reduced v =
      let kept : List Row = (eliminate row ps).kept in
      let met : Zero (reduce kept v).left ↔ SumOf kept v = reduce_zero kept kept_echelon v in
      (λ z. (same_sums v).0 (met.0 ((is_zero_lem _).0 z)), λ s. (is_zero_lem _).1 (met.1 ((same_sums v).1 s)))

  -- the kept points are chosen from the points
  pub points_chosen : (c : Choice) × (length c ≡ length ps) × (chosen c ps ≡ (eliminate row ps).points)
  points_chosen = let t = taken row ps in (t.choice, t.places, t.chose)

  -- each of them is one of the points
  pub points_among : (a : ℕ) → Memᴰ a (eliminate row ps).points → Memᴰ a ps
  points_among a m = let (c, l, e) = points_chosen in each_member (λ q. Memᴰ q ps) (chosen_among c ps) (subst (Memᴰ a) (sym e) m)

  -- the kept points rise if the points do
  pub points_rising : Rising ps → Rising (eliminate row ps).points
  points_rising r = let (c, l, e) = points_chosen in subst Rising e (rising_chosen c ps r)

  -- the rows of the kept points are independent
  pub points_independent : Independent (map row (eliminate row ps).points)
  points_independent = (taken row ps).reduction.independent

  -- the row of each point is a sum of the rows of the kept points
  pub points_sums : Each (SumOf (map row (eliminate row ps).points)) (map row ps)
  points_sums = each_map (λ v. sum_trans (taken row ps).reduction.kept_sums) (map row ps) rows_sums

  -- the rank is the number of kept rows
  pub keeps_rank : Rank (map row ps) (length (eliminate row ps).kept)
  keeps_rank =
      let (c, l, e) = points_chosen in
      let same : chosen c (map row ps) ≡ map row (eliminate row ps).points = sym (map_chosen row c ps) ∙ ap (map row) e in
      subst (Rank (map row ps)) (ap length same ∙ (taken row ps).reduction.count)
      (rank_of_basis (map row ps) c (rw same points_independent) (rw same points_sums))

  -- of m points of which r are kept: twice the additions and r * (r + 1) are at most twice m * r
  pub additions_bound : let e : Elimination = eliminate row ps in let r : ℕ = length e.kept in
      2 * e.additions + r * (r + 1) ≤ 2 * (length ps * r)
  additions_bound = (taken row ps).cost

  -- the same with a division, as the specification has it
  pub additions_most : let e : Elimination = eliminate row ps in let r : ℕ = length e.kept in
      e.additions ≤ length ps * r - r * (r + 1) / 2
  additions_most = omega (arith, additions_bound)

-- some of the points keep as many rows as all just if each point's row is a sum of rows of those
pub equal_kept : (row : ℕ → Row) (ps qs : List ℕ) → Each (λ a. Memᴰ a qs) ps
    → (length (eliminate row qs).kept ≡ length (eliminate row ps).kept) ↔ Each (λ a. SumOf (map row ps) (row a)) qs
equal_kept row ps qs h = equal_point_ranks row ps qs h (keeps_rank row qs) (keeps_rank row ps)

-- a point is kept exactly when its row is no sum of the rows of the points before it
pub point_kept : (row : ℕ → Row) (before : List ℕ) (a : ℕ) (after : List ℕ) → Rising (before ++ (a ∷ after))
    → Memᴰ a (eliminate row (before ++ (a ∷ after))).points ↔ (¬ SumOf (map row before) (row a))
unfolding take_points take_point keep_unless
point_kept row before a after r = rw take_points_append (
  λ m. now.0 (⊎_elim (λ n. n) (λ n. absurd (not_after n)) (point_among row (take_point row e a) after m)),
  λ n. point_stays row (take_point row e a) after (now.1 n),
)
  where
    e : Elimination
    e = eliminate row before

    -- it was not kept before it was taken
    not_before : ¬ Memᴰ a e.points
    not_before m =
        let (c, l, is) = points_chosen row before in
        let less : Each (λ q. q < a) (chosen c before) = each_chosen (λ q. q < a) c before (rising_middle before a after r).0 in
        let self : a < a = each_member (λ q. q < a) (subst (Each (λ q. q < a)) is less) m in
        omega arith

    -- nor is it taken again
    not_after : ¬ Memᴰ a after
    not_after m = let less : a < a = each_member (λ q. a < q) (rising_middle before a after r).1 m in omega arith

    step : (z : Bool) → is_zero (reduce e.kept (row a)).left ≡ z
        → Memᴰ a (keep_unless z e.points a) ↔ (¬ SumOf (map row before) (row a))
    step true is = (λ m. absurd (not_before m), λ n. absurd (n ((sum_reduced row before (row a)).0 is)))
    step false is = (
      λ m s. true≢false (sym ((sum_reduced row before (row a)).1 s) ∙ is),
      λ n. Memᴰ.append_right e.points (Memᴰ.head refl),
    )

    now : Memᴰ a (take_point row e a).points ↔ (¬ SumOf (map row before) (row a))
    now = step (is_zero (reduce e.kept (row a)).left) refl
