-- The ranks of the rows in the places of points are those of the points, and so are the additions and the kept points.
--   counts_few      no degree has more than 512 columns
--   points_at_degree        the kept points are those of the definition
--   ranks_cut       the ranks are those of the points
--   additions_cut_lem   so are the additions
--   ranks_joined    the ranks of a set and of its parts, side by side
use mathlib.Core.Path.{◌≡◌, refl, ap, ◌∙◌}
use mathlib.Core.Bool.{Bool, true, false}
use mathlib.Core.List.{List, map}
use Prim.Native.Nat.{ℕ, ◌+◌, ◌≤◌, ◌<◌}
use native.Mathlib.Decide.{dec_lt}
use native.Mathlib.Omega.{arith}
use lib.Dec.{leb}
use lib.ListN.{length, get_or, length-map, get_or-eq_default}
use Rattle.cube.specs.NumberLists.{below, Inside}
use Rattle.cube.specs.Cube.{size}
use Rattle.cube.proofs.Masks.{member_from, length_from, value_at}
use Rattle.order.specs.Order.{Graded}
use Rattle.order.proofs.DegreeColumns.{length_columns}
use Rattle.gf2.specs.Elimination.{Elimination, eliminate}
use Rattle.gf2.specs.Cut.{padded}
use Rattle.packed.specs.Packed.{unpacked}
use Rattle.gf2.specs.Prefix.{AtMost}
use Rattle.gf2.proofs.Each.{member_each, map_each}
use Rattle.gf2.proofs.Padded.{widened}
use Rattle.matrix.specs.Matrix.{eliminated, rank_of}
use Rattle.matrix.specs.Kept.{kept_points}
use Rattle.point_rows.specs.Workspace.{stored}
use Rattle.matrix.proofs.Stored.{stored_elimination}
use Rattle.filter.specs.Sides.{pair}
use Rattle.immunity.specs.declared.Ranks.{Ranks}
use Rattle.immunity.specs.Judgement.{summed}
use Rattle.immunity.specs.Ranks.{ranks_if, ranks_in}
use Rattle.degree_ranks.specs.Cut.{number_if, up_to, column_count, column_counts, rank_cut, additions_cut}
use Rattle.degree_ranks.specs.Ready.{Ready}
use Rattle.degree_ranks.proofs.Degrees.{up_to_here, up_to_past, up_to_same, summed_same}

-- no degree has more than 512 columns
pub counts_few : {o : List ℕ} → Graded o → (n : ℕ) → AtMost 512 (column_counts o n)
counts_few {o} g n d = elim (dec_lt d 10) [
  | yes l ↦ rw (value_at (up_to n (column_count o n)) 10 d 0 l) few
  | no l ↦ omega (arith, get_or-eq_default (column_counts o n) 0 {n = d} (omega (arith, length-map (below 10) (up_to n (column_count o n)), length_from 0 10)))
]
  where
    few : up_to n (column_count o n) d ≤ 512
    few = elim (dec_lt n d) [
      | yes h ↦ omega (arith, up_to_past n (column_count o n) d h)
      | no h ↦ omega (arith, up_to_here n (column_count o n) d (omega arith), length_columns g n d)
    ]

module _ {o : List ℕ} (g : Graded o) {n : ℕ} {ws : List (List ℕ)} (r : Ready o n ws) (ps : List ℕ) (m : Inside (size n) ps) where
  -- the elimination at a degree
  eliminated_at : (d : ℕ) → d ≤ n → eliminate (stored (unpacked ws) (column_count o n d)) ps ≡ widened 512 (eliminated o n d ps)
  eliminated_at d l = stored_elimination g n d r.small l (unpacked ws) r.rows ps m

  -- the kept points are those of the definition
  pub points_at_degree : (d : ℕ) → d ≤ n → (eliminate (stored (unpacked ws) (column_count o n d)) ps).points ≡ kept_points o n d ps
  points_at_degree d l = ap (λ (x : Elimination). x.points) (eliminated_at d l)

  module _ {cs : List ℕ} (counted : cs ≡ column_counts o n) where
    -- the same where the columns are counted
    eliminated_cut : (d : ℕ) → d ≤ n → eliminate (stored (unpacked ws) (get_or cs d 0)) ps ≡ widened 512 (eliminated o n d ps)
    eliminated_cut d l =
        let here : get_or cs d 0 ≡ column_count o n d =
        ap (λ x. get_or x d 0) counted ∙ value_at (up_to n (column_count o n)) 10 d 0 (omega (arith, r.small)) ∙ up_to_here n (column_count o n) d l in
        ap (λ c. eliminate (stored (unpacked ws) c) ps) here ∙ eliminated_at d l

    -- the ranks are those of the points
    pub ranks_cut : map (up_to n (rank_cut (unpacked ws) ps cs)) (below 10) ≡ map (up_to n (λ d. rank_of o n d ps)) (below 10)
    ranks_cut = up_to_same n _ _ (λ d l. ap (λ (x : Elimination). length x.kept) (eliminated_cut d l) ∙ length-map (eliminated o n d ps).kept (padded 512))

    -- so are the additions
    pub additions_cut_lem : summed (additions_cut (unpacked ws) ps cs) (below (n + 1)) ≡ summed (λ d. (eliminated o n d ps).additions) (below (n + 1))
    additions_cut_lem = summed_same n _ _ (λ d l. ap (λ (x : Elimination). x.additions) (eliminated_cut d l))

-- three numbers, or all 0
ranks_if_lem : (b : Bool) (x y z : ℕ) → ◌≡◌ {A = Ranks} (record { set = number_if b x; one = number_if b y; zero = number_if b z }) (ranks_if b (record { set = x; one = y; zero = z }))
unfolding number_if ranks_if
ranks_if_lem true x y z = refl
ranks_if_lem false x y z = refl

-- ranks are equal by parts
ranks_by : {a b c x y z : ℕ} → a ≡ x → b ≡ y → c ≡ z → ◌≡◌ {A = Ranks} (record { set = a; one = b; zero = c }) (record { set = x; one = y; zero = z })
ranks_by e f g = cc

-- the ranks of a set and of its parts, side by side
pub ranks_joined : (n : ℕ) (f g h : ℕ → ℕ) {xs ys zs : List ℕ} → xs ≡ map (up_to n f) (below 10) → ys ≡ map (up_to n g) (below 10) → zs ≡ map (up_to n h) (below 10)
    → map (ranks_in xs (pair ys zs)) (below 10) ≡ map (λ d. ranks_if (leb d n) (record { set = f d; one = g d; zero = h d })) (below 10)
ranks_joined n f g h {xs} {ys} {zs} a b c = map_each _ _ (below 10) (member_each (λ d. ranks_in xs (pair ys zs) d ≡ ranks_if (leb d n) (record { set = f d; one = g d; zero = h d })) (below 10) (λ d m.
    let l : d < 10 = omega (arith, ((member_from 0 10 d).0 m).1) in
    ranks_by (at f a d l) (at g b d l) (at h c d l) ∙ ranks_if_lem (leb d n) (f d) (g d) (h d)))
  where
    at : (t : ℕ → ℕ) {us : List ℕ} → us ≡ map (up_to n t) (below 10) → (d : ℕ) → d < 10 → get_or us d 0 ≡ up_to n t d
    at t e d l = ap (λ x. get_or x d 0) e ∙ value_at (up_to n t) 10 d 0 l
