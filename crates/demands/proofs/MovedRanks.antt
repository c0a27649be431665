-- Points and exponents that are moved alike have the ranks that they had.
--   rank_moved         moved points have the same rank
--   rank_members       points that are the same in another order have the same rank
--   rank_images        points whose images are other points have their rank
use mathlib.Core.Path.{◌≡◌, refl, sym, ap, subst, ◌∙◌, fun_ext}
use mathlib.Core.Logic.{◌↔◌}
use mathlib.Core.Bool.{Bool, xor}
use mathlib.Core.List.Memᴰ
use mathlib.Core.List.{List, [], ◌∷◌, map, map-map, Memᴰ}
use Prim.Native.Nat.{ℕ, ◌≤◌, ◌<◌}
use native.Mathlib.Omega.{arith}
use Rattle.cube.specs.NumberLists.{Inside}
use Rattle.cube.specs.Cube.{size, within, weight}
use Rattle.order.specs.Order.{Graded}
use Rattle.gf2.specs.Vector.{total, Zero, Each, SumOf}
use Rattle.gf2.specs.Rank.{Rank}
use Rattle.gf2.proofs.Each.{each_of_map, member_each}
use Rattle.gf2.proofs.Sums.{sum_of_point}
use Rattle.gf2.proofs.Rank.{rank_le, rank_unique, rank_alike}
use Rattle.polynomial.proofs.Sums.{sum_over}
use Rattle.point_rows.specs.Rows.{row, rows}
use Rattle.matrix.specs.Matrix.{rank_of}
use Rattle.matrix.proofs.AnyOrder.{zero_total}
use Rattle.matrix.proofs.RankOf.{rank_of_lem}
use Rattle.wiring.proofs.Wirings.{Moves}

-- the sum over images
sum_images : (m : ℕ → ℕ) (qs : List ℕ) (t : ℕ → Bool) → sum_over (map m qs) t ≡ sum_over qs (λ a. t (m a))
unfolding sum_over
sum_images m [] t = refl
sum_images m (q ∷ qs) t = ap (xor (t (m q))) (sum_images m qs t)

-- points that are the same in another order have the same rank
pub rank_members : (o : List ℕ) (n d : ℕ) (ps qs : List ℕ) → ((a : ℕ) → Memᴰ a ps → Memᴰ a qs) → ((a : ℕ) → Memᴰ a qs → Memᴰ a ps)
    → rank_of o n d ps ≡ rank_of o n d qs
rank_members o n d ps qs f g = omega (arith, rank_le (rank_of_lem o n d qs) (rank_of_lem o n d ps) (sums ps qs f), rank_le (rank_of_lem o n d ps) (rank_of_lem o n d qs) (sums qs ps g))
  where
    sums : (xs ys : List ℕ) → ((a : ℕ) → Memᴰ a xs → Memᴰ a ys) → Each (SumOf (rows o n d ys)) (rows o n d xs)
    sums xs ys h =
        (each_of_map (SumOf (rows o n d ys)) (row o n d) xs).1
        (member_each (λ a. SumOf (rows o n d ys) (row o n d a)) xs (λ a i. sum_of_point (row o n d) (h a i)))

module _ {o : List ℕ} (g : Graded o) {n : ℕ} (small : n ≤ 9) (d : ℕ) {m m' : ℕ → ℕ} (v : Moves n m m') where
  -- a monomial at moved points is the monomial of the exponent that is moved to it
  moved_sum : (qs : List ℕ) (u : ℕ) → u < size n → sum_over (map m qs) (within (m u)) ≡ sum_over qs (within u)
  moved_sum qs u l = sum_images m qs (within (m u)) ∙ ap (sum_over qs) (fun_ext (λ a. v.within u a l))

  -- rows of moved points sum to zero just if the rows of the points do
  alike : (qs : List ℕ) → Zero (total (rows o n d qs)) ↔ Zero (total (rows o n d (map m qs)))
  alike qs = (
    λ z. (zero_total g small d (map m qs)).1 (λ u l w.
        let e : m (m' u) ≡ u = v.forth u l in
        let light : weight (m' u) ≤ d = omega (arith, v.weight (m' u) (v.inside_back u), ap weight e) in
        ap (λ x. sum_over (map m qs) (within x)) (sym e) ∙ moved_sum qs (m' u) (v.inside_back u)
        ∙ (zero_total g small d qs).0 z (m' u) (v.inside_back u) light),
    λ z. (zero_total g small d qs).1 (λ u l w.
        sym (moved_sum qs u l) ∙ (zero_total g small d (map m qs)).0 z (m u) (v.inside u) (omega (arith, v.weight u l))),
  )

  -- the rows of moved points
  moved_rows : (qs : List ℕ) → rows o n d (map m qs) ≡ map (λ a. row o n d (m a)) qs
  moved_rows qs = map-map (row o n d) m qs

  -- moved points have the same rank
  pub rank_moved : (ps : List ℕ) → rank_of o n d (map m ps) ≡ rank_of o n d ps
  rank_moved ps =
      rank_unique (rank_of_lem o n d (map m ps))
      (subst (λ rs. Rank rs (rank_of o n d ps)) (sym (moved_rows ps)) (rank_alike (row o n d) (λ a. row o n d (m a)) (λ qs. (
        λ z. subst (λ rs. Zero (total rs)) (moved_rows qs) ((alike qs).0 z),
        λ z. (alike qs).1 (subst (λ rs. Zero (total rs)) (sym (moved_rows qs)) z),
      )) ps (rank_of_lem o n d ps)))

  -- points whose images are other points have their rank
  pub rank_images : (ps qs : List ℕ) → Inside (size n) ps → ((a : ℕ) → Memᴰ a qs → Memᴰ (m a) ps) → ((x : ℕ) → Memᴰ x ps → Memᴰ (m' x) qs)
      → rank_of o n d qs ≡ rank_of o n d ps
  rank_images ps qs inside f h =
      sym (rank_moved qs)
      ∙ rank_members o n d (map m qs) ps
      (λ x i. let w = Memᴰ.of_map m qs i in subst (λ y. Memᴰ y ps) w.2 (f w.0 w.1))
      (λ x i. subst (λ y. Memᴰ y (map m qs)) (v.forth x (inside x i)) (Memᴰ.map m (h x i)))
