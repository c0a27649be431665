-- The sentences on what Judge answers and leaves hold.
--   judge_words   each of them
use mathlib.Core.Path.{◌≡◌, refl, sym, ap, ◌∙◌}
use mathlib.Core.Logic.{◌↔◌}
use mathlib.Core.Bool.{true, false, false≢true}
use mathlib.Core.List.{List, Memᴰ, map}
use Prim.Native.Nat.{ℕ, ◌+◌, ◌≤◌, ◌<◌}
use native.Mathlib.Decide.{dec_lt}
use native.Mathlib.Omega.{arith}
use lib.ListN.{length, get_or, length-map, get_or-eq_default}
use borrow.Author.Tests.{lt-leb}
use Rattle.std.specs.Prelude.{Option, None, Some}
use Rattle.cube.specs.NumberLists.{below}
use Rattle.cube.specs.Cube.{size}
use Rattle.cube.specs.Mask.{well_formed, points, byte}
use Rattle.cube.proofs.Listed.{lists_member}
use Rattle.cube.proofs.Masks.{length_from, value_at, formed_says}
use Rattle.cube.proofs.MaskOf.{length_mask, mask_well_formed}
use Rattle.order.specs.Order.{columns}
use Rattle.order.specs.BuiltIn.{graded}
use Rattle.order.proofs.BuiltIn.{graded_is_graded}
use Rattle.order.proofs.DegreeColumns.{member_columns}
use Rattle.refusal.specs.Outcome.{refused, accepted, checked}
use Rattle.refusal.proofs.Outcomes.{not_both}
use Rattle.polynomial.specs.Polynomial.{Polynomial}
use Rattle.gf2.specs.Vector.{Row, chosen, SumOf}
use Rattle.gf2.proofs.Each.{each_member, chosen_among}
use Rattle.point_rows.specs.Rows.{row, rows}
use Rattle.matrix.specs.Matrix.{eliminated, choice}
use Rattle.filter.specs.Sides.{of_side}
use Rattle.filter.specs.Filter.{Filter}
use Rattle.filter.specs.Part.{part}
use Rattle.filter.proofs.Filters.{few_taps}
use Rattle.filter.proofs.Sides.{of_both}
use Rattle.immunity.specs.declared.Ranks.{Ranks}
use Rattle.immunity.specs.Ranks.{no_ranks, ranks_if, parts}
use Rattle.immunity.specs.Witness.{IsWitness, witness_row, new_point, witness_at}
use Rattle.immunity.specs.Judgement.{EqualRanks, differs, ranks_at, reported, side_at, additions_at, summed, witness_bytes, Judgement, judged, part_ranks, GivenEqual}
use Rattle.immunity.specs.Certificate.{certificate}
use Rattle.immunity.proofs.PartPoints.{part_among}
use Rattle.immunity.proofs.Equal.{equal_sums}
use Rattle.immunity.proofs.Given.{equal_given}
use Rattle.immunity.proofs.Reported.{unequal_differs, equal_differs, reported_first}
use Rattle.immunity.proofs.NoPoint.{mask_none, no_side, witness_none, none_empty}
use Rattle.immunity.proofs.Witnesses.{is_unique}
use Rattle.immunity.proofs.WitnessBuffers.{witness_given, witness_zeros, buffer_holds}
use Rattle.judge.specs.Judge.{JudgeAccepts}
use Rattle.judge.proofs.Passed.{judge_accepted}
use Rattle.certify.specs.Certify.{ranks_equal, certify_outcome}
use Rattle.certify.proofs.Compared.{inputs_pass, certify_compares, certify_accepts}
use Rattle.demands.specs.JudgementWords.{ReportWords, JudgeWords}

module _ (n : ℕ) (s f : List ℕ) where
  -- the ranks past n are all 0
  ranks_past : (d : ℕ) → n < d → get_or (judged graded n s f).ranks d no_ranks ≡ no_ranks
  unfolding judged ranks_at ranks_if
  ranks_past d l = elim (dec_lt d 10) [
    | yes i ↦ value_at (ranks_at graded n s f) 10 d no_ranks i ∙ rw (lt-leb d n l)
    | no i ↦ get_or-eq_default (map (ranks_at graded n s f) (below 10)) no_ranks (omega (arith, length-map (below 10) (ranks_at graded n s f), length_from 0 10))
  ]

  -- those of the parts, one by one
  parts_past : (d : ℕ) → n < d → (side : ℕ) → side ≤ 1 → of_side side (part_ranks (judged graded n s f) d) ≡ 0
  parts_past d l side m = ap (λ (r : Ranks). of_side side (parts r)) (ranks_past d l) ∙ of_both (λ i. 0) side m

  -- the additions are those of the three eliminations at each degree
  additions_summed : (judged graded n s f).additions
      ≡ summed (λ d. (eliminated graded n d (points s)).additions + (eliminated graded n d (part 1 s f)).additions + (eliminated graded n d (part 0 s f)).additions) (below (n + 1))
  unfolding judged additions_at
  additions_summed = refl

-- a witness chooses exponents of n taps
witness_inside : (n d : ℕ) (ss ps : List ℕ) → n ≤ 9 → (u : ℕ) → witness_at graded n d ss ps u ≡ true → u < size n
unfolding witness_at choice
witness_inside n d ss ps small u e =
    let x : Row = witness_row graded n d ps (new_point graded n d ss ps) in
    let chose : Memᴰ u (chosen x (columns graded n d)) = (lists_member (chosen x (columns graded n d)) u).0 e in
    let column : Memᴰ u (columns graded n d) = each_member (λ v. Memᴰ v (columns graded n d)) (chosen_among x (columns graded n d)) chose in
    ((member_columns graded_is_graded n d u small).0 column).0

-- so its bytes are 512 and obey the 0/1/0 rule
witness_mask : (n : ℕ) (s f : List ℕ) (x : Option ℕ) (side : ℕ) → n ≤ 9 → let w : List ℕ = witness_bytes graded n s f x side in (length w ≡ 512) × (well_formed n w ≡ true)
unfolding witness_bytes
witness_mask n s f None side small = (length_mask (λ u. false), mask_well_formed n (λ u. false) (λ u e. absurd (false≢true e)))
witness_mask n s f (Some k) side small =
    let w : Polynomial = witness_at graded n k (points s) (part side s f) in
    (length_mask w, mask_well_formed n w (witness_inside n k (points s) (part side s f) small))

-- those for the reported degree
report_words : (n : ℕ) (s f : List ℕ) (k : ℕ) → Filter n s f → reported graded n s f ≡ Some k → ReportWords n s f (judged graded n s f) k
unfolding judged side_at
report_words n s f k p is = record {
  side_1 = λ h. side ∙ ap (λ b. Some (byte b)) ((unequal_differs graded n s f k 1).1 (λ e. h ((given 1 k (omega arith) low).1 e)));
  side_0 = λ e. side ∙ ap (λ b. Some (byte b)) ((equal_differs graded n s f k 1).1 ((given 1 k (omega arith) low).0 e));
  witness = λ i l h. rw (holds i l) (witness_given graded_is_graded small s f i k (λ e. h ((given i k l low).1 e)));
  no_witness = λ i l e. holds i l ∙ witness_zeros graded_is_graded small s f i k ((given i k l low).0 e) ∙ mask_none;
  only_witness = λ i w l x u m. rw (holds i l) (is_unique graded_is_graded small k (points s) (part i s f) w _ x (witness_given graded_is_graded small s f i k (unequal i x)) u m);
}
  where
    small : n ≤ 9
    small = few_taps n s f p

    low : k ≤ n
    low = (reported_first graded_is_graded small s f k is).within

    given : (i d : ℕ) → i ≤ 1 → d ≤ n → GivenEqual (judged graded n s f) i d ↔ EqualRanks graded n s f i d
    given i d l m = equal_given graded n s f d m small i l

    side : (judged graded n s f).side ≡ Some (byte (differs graded n s f k 1))
    side = ap (side_at graded n s f) is

    holds : (i : ℕ) → i ≤ 1 → of_side i (judged graded n s f).witnesses ≡ witness_bytes graded n s f (Some k) i
    holds i l = buffer_holds graded n s f i l k is

    unequal : (i : ℕ) {w : Polynomial} → IsWitness graded n k (points s) (part i s f) w → ¬ EqualRanks graded n s f i k
    unequal i x e = x.is_new_point.new (each_member (λ a. SumOf (rows graded n k (part i s f)) (row graded n k a))
        ((equal_sums graded n k (points s) (part i s f) (part_among i s f)).0 e) x.is_new_point.inside)

-- each of them, of one n, set and table
words : (n : ℕ) (s f : List ℕ) → Filter n s f → JudgeWords n s f (judged graded n s f)
unfolding judged
words n s f p = record {
  ranks_long = length-map (below 10) (ranks_at graded n s f) ∙ length_from 0 10;
  past_n = λ d l. (ap (λ (r : Ranks). r.set) (ranks_past n s f d l), parts_past n s f d l);
  additions = additions_summed n s f;
  buffer_long = λ i l. rw (holds i l) (witness_mask n s f (reported graded n s f) i small).0;
  buffer_formed = λ i l. rw (holds i l) ((formed_says n _).0 (witness_mask n s f (reported graded n s f) i small).1);
  reported = λ k is. report_words n s f k p is;
  no_side = λ e. no_side graded n s f (none_empty graded_is_graded n s f p e);
  no_witnesses = λ e i l. holds i l ∙ witness_none graded n s f (none_empty graded_is_graded n s f p e) i;
  differs_12 = λ i d l m. (
    λ e g. not_both (sym e ∙ certify_accepts n s f i d graded p l m ((given i d l m).0 g)),
    λ h. compared i d l m ∙ refuses i d ((unequal_differs graded n s f d i).1 (λ e. h ((given i d l m).1 e))),
  );
}
  where
    small : n ≤ 9
    small = few_taps n s f p

    given : (i d : ℕ) → i ≤ 1 → d ≤ n → GivenEqual (judged graded n s f) i d ↔ EqualRanks graded n s f i d
    given i d l m = equal_given graded n s f d m small i l

    holds : (i : ℕ) → i ≤ 1 → of_side i (judged graded n s f).witnesses ≡ witness_bytes graded n s f (reported graded n s f) i
    holds i l = of_both (witness_bytes graded n s f (reported graded n s f)) i l

    compared : (i d : ℕ) → i ≤ 1 → d ≤ n → certify_outcome graded s f n i d 8192 4096 ≡ checked (ranks_equal graded s f n i d) (accepted (certificate graded n s f i d))
    compared i d l m = certify_compares n s f i d graded 8192 4096 (inputs_pass n s f i d p l m)

    refuses : (i d : ℕ) → differs graded n s f d i ≡ true → checked (ranks_equal graded s f n i d) (accepted (certificate graded n s f i d)) ≡ refused 12
    refuses i d e = rw e

-- each of them
pub judge_words : (n : ℕ) (s f : List ℕ) (j : Judgement) → JudgeAccepts graded n s f j → JudgeWords n s f j
judge_words n s f j e = let (h, same) = judge_accepted graded n s f j e in rw (← same) (words n s f h)
