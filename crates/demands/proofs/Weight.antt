-- What is promised of the weight of an exponent holds.
--   weight_words   all of it
use mathlib.Core.Path.{◌≡◌, refl, sym, ap, ◌∙◌}
use mathlib.Core.Bool.{not}
use mathlib.Core.List.{List}
use Prim.Native.Nat.{ℕ, ◌≤◌, ◌<◌}
use native.Mathlib.Nat.{lt_of_lt_of_le}
use lib.Count.{ones-le}
use lib.Pow.{pow_mono}
use lib.Dec.{eqb}
use lib.ListN.{length}
use borrow.Author.Tests.{eqb-true, eq-eqb}
use Rattle.std.specs.Prelude.{Result, Ok, Err}
use Rattle.refusal.specs.declared.Refusal.{Refusal}
use Rattle.cube.specs.Cube.{Taps, size, weight}
use Rattle.cube.specs.Mask.{member, mask}
use Rattle.cube.proofs.Bits.{weight_bits}
use Rattle.cube.proofs.Taps.{taps_range}
use Rattle.cube.proofs.Masks.{select_count, mask_member, has_point_says, member_points}
use Rattle.cube.proofs.MaskOf.{length_mask, mask_well_formed}
use Rattle.refusal.specs.Outcome.{accepted, outcome_of}
use Rattle.refusal.proofs.Outcomes.{not_both}
use Rattle.refusal.proofs.Verdicts.{all_passed, verdict_passes}
use Rattle.polynomial.specs.Polynomial.{HasDegree}
use Rattle.polynomial.specs.Degree.{degree_checks, degree_outcome, DegreeContract}
use Rattle.polynomial.proofs.Largest.{degree_has}
use Rattle.demands.specs.Weight.{WeightWords}

-- the polynomial of one exponent
module _ (n u : ℕ) (t : Taps n) (l : u < size n) where
  -- its coefficients
  abbrev alone : List ℕ
  alone = mask (eqb u)

  -- an exponent is chosen just if it is that one
  chosen_is : (v : ℕ) → v < size n → member alone v ≡ eqb u v
  chosen_is v i = mask_member (eqb u) v (lt_of_lt_of_le i (pow_mono t.1))

  -- Degree accepts it
  accepts : (k : ℕ) × (degree_outcome n alone ≡ accepted k)
  unfolding degree_outcome
  accepts =
      let formed = mask_well_formed n (eqb u) (λ v e. rw (sym (eqb-true u v e)) l) in
      let some = ap not ((has_point_says alone).1 (u, (member_points alone u).1 (chosen_is u l ∙ eq-eqb u u refl))) in
      let right = eq-eqb (length alone) 512 (length_mask (eqb u)) in
      (_, verdict_passes (degree_checks n alone) _ (all_passed (degree_checks n alone) (right, ((taps_range n).1 t, (formed, (some, tt))))))

  -- its degree is the weight of the exponent
  weighs : (k : ℕ) → HasDegree n (member alone) k → k ≡ weight u
  weighs k d = sym d.weighs ∙ ap weight (sym (eqb-true u d.top (sym (chosen_is d.top d.inside) ∙ d.chosen)))

  -- so that is what Degree answers
  degree_of_one : (r : Result ℕ Refusal) → outcome_of r ≡ degree_outcome n alone → r ≡ Ok (weight u)
  degree_of_one (Err x) e = absurd (not_both (e ∙ accepts.1))
  degree_of_one (Ok k) e = ap Ok (weighs k (degree_has n alone k (sym e)))

-- what Degree answers for any polynomial is its degree, at most n
degree_of_any : (n : ℕ) (b : List ℕ) (k : ℕ) → DegreeContract n b (Ok k) → HasDegree n (member b) k × (k ≤ n)
degree_of_any n b k c = let d = degree_has n b k (sym c.answers) in (d, rw (sym d.weighs) (ones-le n d.top d.inside))

-- all of it
pub weight_words : WeightWords
weight_words = record {
  counts_ones = λ k u l. weight_bits k u l ∙ sym (select_count k _);
  at_most = ones-le;
  degree_of_one = λ n u r t l c. degree_of_one n u t l r c.answers;
  degree_of_any = degree_of_any;
}
