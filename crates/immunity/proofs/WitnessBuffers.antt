-- What the witness buffers hold.
--   witness_given   the buffer of a side that differs at the reported degree holds its witness
--   witness_degree  which has exactly that degree
--   witness_zeros   the buffer of a side that does not differ there is zero
--   buffer_holds    the two buffers of a judgement are those of the sides
use mathlib.Core.Path.{◌≡◌, sym, ap, ◌∙◌}
use mathlib.Core.Bool.{false}
use mathlib.Core.List.{List}
use Rattle.std.specs.Prelude.{Some}
use Prim.Native.Nat.{ℕ, ◌≤◌}
use native.Mathlib.Omega.{arith}
use lib.Pow.{pow_mono}
use Rattle.cube.specs.Mask.{member, points, mask}
use Rattle.cube.proofs.Masks.{mask_member}
use Rattle.order.specs.Order.{Graded}
use Rattle.polynomial.specs.Polynomial.{Polynomial, HasDegree}
use Rattle.polynomial.proofs.HasDegree.{has_degree}
use Rattle.matrix.proofs.Rising.{points_rising}
use Rattle.filter.specs.Sides.{of_side}
use Rattle.filter.specs.Part.{part}
use Rattle.filter.proofs.Sides.{of_both}
use Rattle.immunity.specs.Annihilator.{Annihilator}
use Rattle.immunity.specs.Witness.{IsWitness, witness_at}
use Rattle.immunity.specs.Judgement.{EqualRanks, reported, witness_bytes, judged}
use Rattle.immunity.proofs.PartPoints.{part_among}
use Rattle.immunity.proofs.Reported.{FirstDiffers}
use Rattle.immunity.proofs.Witnesses.{is_annihilator, is_same, witness_is, witness_zero}

module _ {o : List ℕ} (g : Graded o) {n : ℕ} (small : n ≤ 9) (s f : List ℕ) (side k : ℕ) where
  -- the part of the side
  abbrev ps : List ℕ
  ps = part side s f

  -- the polynomial in the buffer
  abbrev w : Polynomial
  w = member (witness_bytes o n s f (Some k) side)

  -- where the side differs it is the witness
  pub witness_given : ¬ EqualRanks o n s f side k → IsWitness o n k (points s) ps w
  unfolding witness_bytes
  witness_given h =
      let at : Polynomial = witness_at o n k (points s) ps in
      is_same g small k (points s) ps at w (λ u l. sym (mask_member at u (omega (arith, pow_mono small))))
      (witness_is g small k (points s) ps (points_rising s) (part_among side s f) h)

  -- it has exactly the reported degree
  pub witness_degree : FirstDiffers o n s f k → side ≤ 1 → ¬ EqualRanks o n s f side k → HasDegree n w k × Annihilator n w ps (points s)
  witness_degree r l h = (has_degree n w k is.on_new.up_to is.point is.one (λ j u. r.least side j w l annihilates u), annihilates)
    where
      is : IsWitness o n k (points s) ps w
      is = witness_given h

      annihilates : Annihilator n w ps (points s)
      annihilates = is_annihilator g small k (points s) ps is

  -- where the side does not differ the buffer is zero
  pub witness_zeros : EqualRanks o n s f side k → witness_bytes o n s f (Some k) side ≡ mask (λ u. false)
  unfolding witness_bytes
  witness_zeros e = simp (witness_zero g small k (points s) ps (points_rising s) (part_among side s f) e)

-- the buffers hold the witnesses
pub buffer_holds : (o : List ℕ) (n : ℕ) (s f : List ℕ) (side : ℕ) → side ≤ 1 → (k : ℕ) → reported o n s f ≡ Some k
    → of_side side (judged o n s f).witnesses ≡ witness_bytes o n s f (Some k) side
unfolding judged
buffer_holds o n s f side l k e = of_both (witness_bytes o n s f (reported o n s f)) side l ∙ ap (λ x. witness_bytes o n s f x side) e
