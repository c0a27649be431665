-- The mask of the points that elimination keeps.
--   points_lists   the points of the mask of rising numbers are these
--   kept_rising    kept points rise where the points do
--   kept_inside    and are points of n taps where the points are
--   kept_which     which they are
--   kept_long      their mask has 512 bytes
--   points_kept    the points of it are these
--   kept_formed    it is well formed
--   kept_marked    it marks a point just if that is kept
--   kept_as_many   it marks as many as the rank
--   kept_again     elimination of its points alone keeps them all
use mathlib.Core.Path.{◌≡◌, refl, sym, ap, ap₂, ◌∙◌, subst}
use mathlib.Core.Logic.{◌↔◌, ◌⊎◌, inl, inr}
use mathlib.Core.Bool.{true}
use mathlib.Core.List.Memᴰ
use mathlib.Core.List.{List, [], ◌∷◌, Memᴰ}
use Prim.Native.Nat.{ℕ, ◌≤◌, ◌<◌}
use native.Mathlib.Omega.{arith}
use lib.ListN.{length}
use lib.Pow.{pow_mono}
use Rattle.cube.specs.NumberLists.{below, select, lists, Inside}
use Rattle.cube.specs.Cube.{size}
use Rattle.cube.specs.Mask.{well_formed, member, points, mask}
use Rattle.cube.proofs.Listed.{lists_member, member_select}
use Rattle.cube.proofs.Masks.{member_from, member_points}
use Rattle.cube.proofs.MaskOf.{length_mask, mask_well_formed, points_mask}
use Rattle.gf2.specs.Vector.{Each}
use Rattle.gf2.specs.Points.{Rising}
use Rattle.gf2.specs.Meeting.{KeptPoint}
use Rattle.gf2.proofs.Each.{each_member}
use Rattle.gf2.proofs.Kept.{points_among, points_rising}
use Rattle.gf2.proofs.Again.{Alike, points_count, again}
use Rattle.gf2.proofs.Meeting.{kept_of}
use Rattle.point_rows.specs.Rows.{row}
use Rattle.matrix.specs.Matrix.{eliminated, rank_of}
use Rattle.matrix.specs.Kept.{kept_points, kept_mask}
use Rattle.matrix.proofs.Rising.{rising_select, below_rising}

-- rising lists with the same members are the same
rising_same : (xs ys : List ℕ) → Rising xs → Rising ys → ((u : ℕ) → Memᴰ u xs → Memᴰ u ys) → ((u : ℕ) → Memᴰ u ys → Memᴰ u xs) → xs ≡ ys
rising_same [] [] r s f g = refl
rising_same [] (y ∷ ys) r s f g = absurd (Memᴰ.not-nil (g y (Memᴰ.head refl)))
rising_same (x ∷ xs) [] r s f g = absurd (Memᴰ.not-nil (f x (Memᴰ.head refl)))
rising_same (x ∷ xs) (y ∷ ys) r s f g =
    ap₂ {C = List ℕ} (λ z zs. z ∷ zs) same
    (rising_same xs ys r.1 s.1 (λ u m. later y ys u (each_member (λ b. x < b) r.0 m) same (Memᴰ.cases_cons (f u (Memᴰ.tail m))))
    (λ u m. later x xs u (each_member (λ b. y < b) s.0 m) (sym same) (Memᴰ.cases_cons (g u (Memᴰ.tail m)))))
  where
    least : (a : ℕ) (bs : List ℕ) (b : ℕ) → Each (λ c. a < c) bs → (b ≡ a) ⊎ Memᴰ b bs → a ≤ b
    least a bs b h (inl e) = omega arith
    least a bs b h (inr m) = let l : a < b = each_member (λ c. a < c) h m in omega arith

    same : x ≡ y
    same =
        let l : y ≤ x = least y ys x s.0 (Memᴰ.cases_cons (f x (Memᴰ.head refl))) in
        let k : x ≤ y = least x xs y r.0 (Memᴰ.cases_cons (g y (Memᴰ.head refl))) in
        omega arith

    later : {z : ℕ} (a : ℕ) (bs : List ℕ) (u : ℕ) → z < u → z ≡ a → (u ≡ a) ⊎ Memᴰ u bs → Memᴰ u bs
    later a bs u l e (inl i) = absurd (omega arith)
    later a bs u l e (inr m) = m

-- the points of the mask of rising numbers are these
pub points_lists : (qs : List ℕ) → Rising qs → Inside 512 qs → points (mask (lists qs)) ≡ qs
points_lists qs r inside =
    points_mask (lists qs)
    ∙ rising_same (select (lists qs) (below 512)) qs (rising_select (lists qs) (below 512) (below_rising 512)) r
    (λ u m. (lists_member qs u).0 ((member_select (lists qs) (below 512) u).0 m).0)
    (λ u m. (member_select (lists qs) (below 512) u).1 ((lists_member qs u).1 m, (member_from 0 512 u).1 (omega arith, omega (arith, inside u m))))

module _ (o : List ℕ) (n d : ℕ) (ps : List ℕ) where
  -- kept points are among the points
  kept_among : (a : ℕ) → Memᴰ a (kept_points o n d ps) → Memᴰ a ps
  unfolding eliminated
  kept_among a m = points_among (row o n d) ps a m

  -- they rise where the points do
  pub kept_rising : Rising ps → Rising (kept_points o n d ps)
  unfolding eliminated
  kept_rising r = points_rising (row o n d) ps r

  -- and are points of n taps where the points are
  pub kept_inside : (m : ℕ) → Inside m ps → Inside m (kept_points o n d ps)
  kept_inside m inside a i = inside a (kept_among a i)

  -- which they are
  pub kept_which : Rising ps → (a : ℕ) → Memᴰ a (kept_points o n d ps) ↔ KeptPoint (row o n d) ps a
  unfolding eliminated
  kept_which r a = kept_of (row o n d) ps r a

  -- there are as many as the rank
  kept_count : length (kept_points o n d ps) ≡ rank_of o n d ps
  unfolding eliminated
  kept_count = points_count (row o n d) ps

  -- their mask has 512 bytes
  pub kept_long : length (kept_mask o n d ps) ≡ 512
  unfolding kept_mask
  kept_long = length_mask (lists (kept_points o n d ps))

  -- they alone keep the same
  alike : Alike (eliminated o n d (kept_points o n d ps)) (eliminated o n d ps)
  unfolding eliminated
  alike = again (row o n d) ps

  module _ (few : n ≤ 9) (r : Rising ps) (inside : Inside (size n) ps) where
    -- the points of it are these
    pub points_kept : points (kept_mask o n d ps) ≡ kept_points o n d ps
    unfolding kept_mask
    points_kept = points_lists (kept_points o n d ps) (kept_rising r) (λ a m. omega (arith, kept_inside (size n) inside a m, pow_mono few))

    -- it is well formed
    pub kept_formed : well_formed n (kept_mask o n d ps) ≡ true
    unfolding kept_mask
    kept_formed = mask_well_formed n (lists (kept_points o n d ps)) (λ v e. kept_inside (size n) inside v ((lists_member (kept_points o n d ps) v).0 e))

    -- it marks a point just if that is kept
    pub kept_marked : (a : ℕ) → (member (kept_mask o n d ps) a ≡ true) ↔ KeptPoint (row o n d) ps a
    kept_marked a =
        let which = kept_which r a in
        let marked = member_points (kept_mask o n d ps) a in
        (λ e. which.0 (subst (Memᴰ a) points_kept (marked.1 e)), λ k. marked.0 (subst (Memᴰ a) (sym points_kept) (which.1 k)))

    -- it marks as many as the rank
    pub kept_as_many : length (points (kept_mask o n d ps)) ≡ rank_of o n d ps
    kept_as_many = ap length points_kept ∙ kept_count

    -- elimination of its points alone keeps them all
    pub kept_again : (rank_of o n d (points (kept_mask o n d ps)) ≡ rank_of o n d ps) × (kept_mask o n d (points (kept_mask o n d ps)) ≡ kept_mask o n d ps)
    unfolding kept_mask
    kept_again = (
      ap (rank_of o n d) points_kept ∙ ap length alike.kept,
      ap (λ qs. mask (lists (kept_points o n d qs))) points_kept ∙ ap (λ qs. mask (lists qs)) alike.points,
    )
