-- The sentences on Convert and Degree hold.
--   normal_form_words   each of them
use mathlib.Core.Path.{◌≡◌, sym, ap, ◌∙◌, subst}
use mathlib.Core.Logic.{◌↔◌}
use mathlib.Core.Bool.{true}
use mathlib.Core.List.{List}
use Prim.Native.Nat.{ℕ, ◌<◌}
use lib.ListN.{length, get_or}
use borrow.Author.Tests.{eqb-true, eq-eqb}
use Rattle.std.specs.Prelude.{Ok}
use Rattle.refusal.specs.Outcome.{accepted, outcome_of}
use Rattle.refusal.proofs.Outcomes.{accepted_answer}
use Rattle.refusal.proofs.Verdicts.{passed_all, all_passed, verdict_passes, accepted_passes}
use Rattle.cube.specs.Cube.{Taps, size}
use Rattle.cube.specs.Mask.{WellFormed, member, byte}
use Rattle.cube.proofs.Taps.{taps_range}
use Rattle.cube.proofs.Masks.{formed_says, byte_member}
use Rattle.polynomial.specs.Polynomial.{value}
use Rattle.polynomial.specs.Convert.{convert_checks, convert_outcome, convert_leaves, ConvertContract}
use Rattle.polynomial.specs.Degree.{degree_checks, degree_outcome}
use Rattle.demands.specs.Demands.{ConvertAccepts}
use Rattle.demands.specs.NormalFormWords.{NormalFormWords}
use Rattle.demands.proofs.Demand2.{demand2}
use Rattle.demands.proofs.Refusals.{coefficient_says, convert_refuses, degree_refuses}

module _ (n : ℕ) (b : List ℕ) where
  -- 512 bytes of n taps by the 0/1/0 rule
  abbrev Obeys : Type 0
  Obeys = (length b ≡ 512) × Taps n × WellFormed n b

  -- Convert accepts exactly these
  convert_obeys : ConvertAccepts n b ↔ Obeys
  unfolding convert_outcome
  convert_obeys = (
    λ e. let (long, (tapped, (formed, _))) = passed_all (convert_checks n b) (accepted_passes (convert_checks n b) _ tt e).0 in
        (eqb-true (length b) 512 long, (taps_range n).0 tapped, (formed_says n b).0 formed),
    λ (long, tapped, formed). verdict_passes (convert_checks n b) _ (all_passed (convert_checks n b)
        (eq-eqb (length b) 512 long, ((taps_range n).1 tapped, ((formed_says n b).1 formed, tt)))),
  )

  -- Degree accepts exactly those of them with a coefficient of 1
  degree_obeys : ((d : ℕ) × (degree_outcome n b ≡ accepted d)) ↔ ((length b ≡ 512) × Taps n × WellFormed n b × ((u : ℕ) × (member b u ≡ true)))
  unfolding degree_outcome
  degree_obeys = (
    λ (d, e). let (long, (tapped, (formed, (some, _)))) = passed_all (degree_checks n b) (accepted_passes (degree_checks n b) _ d e).0 in
        (eqb-true (length b) 512 long, (taps_range n).0 tapped, (formed_says n b).0 formed, (coefficient_says b).0 some),
    λ (long, tapped, formed, some). (
      _,
      verdict_passes (degree_checks n b) _ (all_passed (degree_checks n b)
          (eq-eqb (length b) 512 long, ((taps_range n).1 tapped, ((formed_says n b).1 formed, ((coefficient_says b).1 some, tt))))),
    ),
  )

module _ (n : ℕ) (b b' : List ℕ) (h : ConvertContract n b b' (Ok tt)) where
  -- what Convert leaves obeys its rules
  left_obeys : Obeys n b'
  left_obeys = subst (Obeys n) (sym h.leaves) ((convert_obeys n (convert_leaves n b)).0 (demand2.back n b (sym h.answers)).0)

  -- a byte below N is a sum
  left_sum : (a : ℕ) → a < size n → get_or b' a 0 ≡ byte (value n (member b) a)
  left_sum a l =
      let (_, _, formed) = left_obeys in
      sym (byte_member b' a (formed.0 a l)) ∙ ap byte (ap (λ x. member x a) h.leaves ∙ demand2.to_table n b (sym h.answers) a l)

-- each of them
pub normal_form_words : NormalFormWords
normal_form_words = record {
  convert_refuses = convert_refuses;
  convert_answers = λ n b b' r k h. rw h.answers (convert_refuses n b k);
  convert_accepts = λ n b b' r h. (
    λ e. (convert_obeys n b).0 (sym h.answers ∙ ap outcome_of e),
    λ obeys. accepted_answer r (h.answers ∙ (convert_obeys n b).1 obeys),
  );
  convert_sums = left_sum;
  convert_stays = λ n b b' h. let (long, _, formed) = left_obeys n b b' h in (long, formed.1);
  degree_refuses = degree_refuses;
  degree_answers = λ n b r k h. rw h.answers (degree_refuses n b k);
  degree_accepts = λ n b r h. (
    λ (d, e). (degree_obeys n b).0 (d, sym h.answers ∙ ap outcome_of e),
    λ obeys. let (d, e) = (degree_obeys n b).1 obeys in (d, accepted_answer r (h.answers ∙ e)),
  );
}
