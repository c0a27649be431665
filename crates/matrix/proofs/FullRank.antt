-- Ranks that are as large as can be: at each degree that of all points, and at degree n that of any points.
--   rank_fewer   the rank of points is at most their number
--   rank_all     the rank of all points of n taps at a degree is the number of its columns
--   rank_full    at degree n the rank of the points of a mask is their number
use mathlib.Core.Path.{◌≡◌, refl, sym, ◌∙◌, subst}
use mathlib.Core.Bool.{Bool, true, false}
use mathlib.Core.List.{List, [], map, map-append, Memᴰ}
use Prim.Native.Nat.{ℕ, zero, suc, ◌+◌, ◌≤◌, ◌<◌}
use native.Mathlib.Omega.{arith}
use native.Mathlib.Numerals.{add-one}
use lib.Count.{ones-le}
use lib.Dec.{eqb, leb}
use lib.ListN.{length, length-map}
use borrow.Author.Tests.{eqb-true, leb-true}
use Rattle.cube.specs.NumberLists.{up_from, below, select, Inside}
use Rattle.cube.specs.Cube.{size, within, weight}
use Rattle.cube.specs.Mask.{member, points}
use Rattle.cube.proofs.Bits.{within_self, within_smaller}
use Rattle.cube.proofs.Listed.{member_select}
use Rattle.cube.proofs.Masks.{member_from, member_points, select_yes, select_no, select_count}
use Rattle.order.specs.Order.{Graded, columns}
use Rattle.order.proofs.DegreeColumns.{count_columns}
use Rattle.gf2.specs.Vector.{Each, chosen, SumOf}
use Rattle.gf2.specs.Rank.{Independent, Rank}
use Rattle.gf2.proofs.Duality.{separated_no_sum}
use Rattle.gf2.proofs.Each.{member_each, each_of_map, each_chosen}
use Rattle.gf2.proofs.Eliminate.{taken}
use Rattle.gf2.proofs.Exchange.{columns_most}
use Rattle.gf2.proofs.Independence.{independent_apart, independent_snoc}
use Rattle.gf2.proofs.Rank.{rank_most}
use Rattle.gf2.proofs.Sums.{sum_of_point, sums_self}
use Rattle.polynomial.specs.Polynomial.{value, UpTo}
use Rattle.polynomial.proofs.Value.{monomial_value}
use Rattle.point_rows.specs.Rows.{row, rows}
use Rattle.matrix.specs.Matrix.{eliminated, rank_of}
use Rattle.matrix.proofs.Product.{value_dot, zero_orthogonal}
use Rattle.matrix.proofs.RankOf.{rank_of_lem}

-- the rank of points is at most their number
pub rank_fewer : (o : List ℕ) (n d : ℕ) (ps : List ℕ) → rank_of o n d ps ≤ length ps
unfolding eliminated
rank_fewer o n d ps = (taken (row o n d) ps).fewer

module _ {o : List ℕ} (g : Graded o) {n : ℕ} (small : n ≤ 9) (d : ℕ) where
  -- the row of a point that weighs at most d is no sum of rows of smaller points: its monomial is zero at these and one at the point
  row_new : (a : ℕ) (ps : List ℕ) → a < size n → weight a ≤ d → ((b : ℕ) → Memᴰ b ps → b < a) → ¬ SumOf (rows o n d ps) (row o n d a)
  row_new a ps l w less = separated_no_sum (map (eqb a) (columns o n d)) (
    zero_orthogonal g small d (eqb a) up ps (member_each (λ b. value n (eqb a) b ≡ false) ps (λ b m. monomial_value n a b l ∙ within_smaller a b (less b m))),
    sym (value_dot g small d (eqb a) a up) ∙ monomial_value n a a l ∙ within_self a,
  )
    where
      up : UpTo n d (eqb a)
      up u h e = rw (← eqb-true a u e) w

  -- so rows of such points are independent
  light_independent : (t : ℕ → Bool) (k : ℕ) → ((u : ℕ) → u < k → t u ≡ true → (u < size n) × (weight u ≤ d)) → Independent (rows o n d (select t (below k)))
  unfolding up_from select
  light_independent t zero light = (independent_apart []).1 tt
  light_independent t (suc k) light =
      subst (λ j. Independent (rows o n d (select t (below j)))) (add-one k) (go (t k) refl (light_independent t k (λ u l. light u (omega arith))))
    where
      go : (b : Bool) → t k ≡ b → Independent (rows o n d (select t (below k))) → Independent (rows o n d (select t (below (k + 1))))
      go true e later =
          let (l, w) = light k (omega arith) e in
          rw (select_yes t k e, map-append) (independent_snoc (rows o n d (select t (below k))) later (row o n d k)
          (row_new k (select t (below k)) l w (λ b m. omega (arith, ((member_from 0 k b).0 ((member_select t (below k) b).0 m).1).1))))
      go false e later = rw (select_no t k e) later

  -- all points of n taps
  abbrev all : List ℕ
  all = below (size n)

  -- those of them that weigh at most d
  abbrev light_points : List ℕ
  light_points = select (λ u. leb (weight u) d) all

  -- the rank of all points of n taps is the number of columns: as many points weigh at most d
  pub rank_all : rank_of o n d all ≡ length (columns o n d)
  rank_all =
      let r : Rank (rows o n d all) (rank_of o n d all) = rank_of_lem o n d all in
      let sums : Each (SumOf (rows o n d all)) (rows o n d light_points) =
      (each_of_map (SumOf (rows o n d all)) (row o n d) light_points).1 (member_each _ light_points (λ a m. sum_of_point (row o n d) ((member_select _ all a).0 m).1)) in
      let short : Each (λ v. length v ≤ length (columns o n d)) (rows o n d all) =
      (each_of_map (λ v. length v ≤ length (columns o n d)) (row o n d) all).1 (member_each _ all (λ a m. omega (arith, length-map (columns o n d) (λ u. within u a)))) in
      omega (
        arith,
        rank_most r (rows o n d light_points) (light_independent (λ u. leb (weight u) d) (size n) (λ u l e. (l, leb-true (weight u) d e))) sums,
        length-map light_points (row o n d),
        select_count (size n) (λ u. leb (weight u) d),
        count_columns g n d small,
        columns_most (length (columns o n d)) (chosen r.basis (rows o n d all)) r.independent (each_chosen _ r.basis (rows o n d all) short),
        r.count,
      )

-- at degree n the rank of the points of a mask is their number
pub rank_full : {o : List ℕ} → Graded o → {n : ℕ} → n ≤ 9 → (s : List ℕ) → Inside (size n) (points s) → rank_of o n n (points s) ≡ length (points s)
rank_full {o} g {n} small s inside =
    let light : (u : ℕ) → u < length s → member s u ≡ true → (u < size n) × (weight u ≤ n) =
    λ u l e. let here : u < size n = inside u ((member_points s u).1 e) in (here, ones-le n u here) in
    omega (
      arith,
      rank_fewer o n n (points s),
      rank_most (rank_of_lem o n n (points s)) (rows o n n (points s)) (light_independent g small n (member s) (length s) light) (sums_self (rows o n n (points s))),
      length-map (points s) (row o n n),
    )
