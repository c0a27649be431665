-- What is promised of Check holds.
--   any_certificate   each sentence of it
use mathlib.Core.Path.{◌≡◌, refl, sym, ap, ap₂, ◌∙◌, subst}
use mathlib.Core.Logic.{◌↔◌, ◌≢◌, ⊎_elim}
use mathlib.Core.Bool.{Bool, true, false, false≢true}
use mathlib.Core.List.{List, Memᴰ}
use Prim.Native.Nat.{ℕ, ◌+◌, ◌*◌, ◌/◌, ◌%◌, ◌^◌, ◌≤◌, ◌<◌}
use native.Mathlib.Decide.{dec_lt}
use native.Mathlib.Nat.{zero-div}
use native.Mathlib.Omega.{arith}
use lib.Dec.{eqb}
use lib.ListN.{length, get_or, get_or-eq_default}
use lib.Pow.{pow_pos}
use borrow.Author.Tests.{eqb-false}
use Rattle.std.specs.Prelude.{Ok}
use Rattle.refusal.specs.Outcome.{Outcome, refused, accepted, Check, checked, outcome_of}
use Rattle.refusal.specs.Verdict.{verdict}
use Rattle.refusal.proofs.Outcomes.{not_both, accepted_answer}
use Rattle.refusal.proofs.Verdicts.{checked_append, verdict_refuses, accepted_passes, refused_either, refused_other}
use Rattle.cube.specs.Mask.{points}
use Rattle.cube.proofs.Masks.{value_at}
use Rattle.order.specs.BuiltIn.{graded}
use Rattle.order.proofs.BuiltIn.{graded_is_graded}
use Rattle.gf2.specs.Rank.{Rank}
use Rattle.gf2.specs.Vector.{entry}
use Rattle.gf2.proofs.Bits.{not_one}
use Rattle.gf2.proofs.Rank.{rank_unique}
use Rattle.packed.specs.Packed.{odd}
use Rattle.point_rows.specs.Rows.{rows}
use Rattle.matrix.specs.Matrix.{rank_of}
use Rattle.filter.specs.Part.{part}
use Rattle.filter.specs.Outside.{Outside, is_outside}
use Rattle.filter.proofs.Filters.{few_taps}
use Rattle.filter.proofs.AtDegree.{AtDegree}
use Rattle.filter.proofs.Outside.{outside_says}
use Rattle.immunity.specs.Judgement.{Judgement, judged, EqualRanks, differs, GivenEqual}
use Rattle.immunity.specs.Certificate.{bit_of, named, Certifies, certificate}
use Rattle.immunity.specs.CertificateTest.{certifies}
use Rattle.immunity.proofs.CertificateNumbers.{number_same}
use Rattle.immunity.proofs.CertificateTest.{certifies_equal}
use Rattle.immunity.proofs.Certificates.{is_certifies}
use Rattle.immunity.proofs.Equal.{equal_none}
use Rattle.immunity.proofs.Given.{equal_given}
use Rattle.immunity.proofs.PartPoints.{part_rising, part_among}
use Rattle.judge.specs.Judge.{JudgeAccepts}
use Rattle.judge.proofs.Passed.{judge_accepted, judge_accepts}
use Rattle.certify.specs.Certify.{certify_inputs, ranks_equal, certify_outcome}
use Rattle.certify.proofs.Compared.{certify_passed, certify_lengths}
use Rattle.checker.specs.Check.{check_inputs, check_outcome, CheckAccepts}
use Rattle.checker.proofs.Checked.{check_shown, check_length, check_passes, check_says, check_accepted, check_exact}
use Rattle.demands.specs.Check.{Admitted, AnyCertificate}
use Rattle.demands.proofs.CertifyWords.{certify_words}
use Rattle.demands.proofs.Refusals.{check_refuses, same_rank}

module _ (s f : List ℕ) (n side d : ℕ) (c : List ℕ) where
  -- what Check answers
  abbrev Answers : Bool → Type 0
  Answers b = CheckAccepts graded n s f side d c b

  -- whether c is a certificate
  abbrev Right : Type 0
  Right = Certifies graded n d (points s) (part side s f) c

  -- it is yes just for a certificate
  exact : (b : Bool) → Answers b → (b ≡ true) ↔ Right
  exact b e = check_exact graded s f n side d c b e

  -- where every rule holds there is an answer
  answers : Admitted s f n side d c → (b : Bool) × Answers b
  answers held = go (check_outcome graded s f n side d c) refl
    where
      go : (o : Outcome Bool) → check_outcome graded s f n side d c ≡ o → (b : Bool) × Answers b
      go (refused k) e = absurd (held k ((check_refuses s f n side d c k).0 e))
      go (accepted b) e = (b, e)

  -- and where there is one, every rule holds
  admitted : (b : Bool) → Answers b → Admitted s f n side d c
  admitted b e k broken = not_both (sym ((check_refuses s f n side d c k).1 broken) ∙ e)

  -- what the inputs show where there is an answer
  shown : (b : Bool) → Answers b → AtDegree n s f side d
  shown b e = check_shown s f n side d (length c) (check_accepted graded s f n side d c b e).0

  -- the certificate has the right length
  long : (b : Bool) → Answers b → length c ≡ 4096
  long b e = check_length s f n side d (length c) (check_accepted graded s f n side d c b e).0

  -- no exactly where every rule holds and c is no certificate
  answers_no : Answers false ↔ (Admitted s f n side d c × (¬ Right))
  answers_no = (
    λ e. (admitted false e, λ x. false≢true ((exact false e).1 x)),
    λ (held, wrong). let (b, e) = answers held in subst Answers (not_one b (λ q. wrong ((exact b e).0 q))) e,
  )

  -- yes exactly where every rule holds and it is one
  answers_yes : Answers true ↔ (Admitted s f n side d c × Right)
  answers_yes = (
    λ e. (admitted true e, (exact true e).0 refl),
    λ (held, right). let (b, e) = answers held in subst Answers ((exact b e).1 right) e,
  )

  module _ (e : Answers true) where
    -- the ranks are equal
    yes_ranks : EqualRanks graded n s f side d
    yes_ranks = certifies_equal graded n d side s f c ((exact true e).0 refl)

    -- a one is named for a point of the set outside the part
    named_outside : (a q : ℕ) → a < 512 → entry (named c a) q ≡ true → Outside (points s) (part side s f) a
    named_outside a q l one = go (is_outside (points s) (part side s f) a) refl
      where
        go : (z : Bool) → is_outside (points s) (part side s f) a ≡ z → Outside (points s) (part side s f) a
        go true i = (outside_says (points s) (part side s f) a).0 i
        go false i = absurd (false≢true (sym (((exact true e).0 refl).others a l (λ out. false≢true (sym i ∙ (outside_says (points s) (part side s f) a).1 out)) q) ∙ one))

    -- after a yes a bit is 1 only for a point of the set outside the part, and only at a point of the part
    yes_bits : (a q : ℕ) → q < 512 → bit_of c a q ≡ true → Outside (points s) (part side s f) a × Memᴰ q (part side s f)
    unfolding bit_of
    yes_bits a q l one = elim (dec_lt a 512) [
      | yes small ↦
          let entry-one : entry (named c a) q ≡ true = value_at (bit_of c a) 512 q false l ∙ one in
          let out : Outside (points s) (part side s f) a = named_outside a q small entry-one in
          (out, (((exact true e).0 refl).sums a out).only q entry-one)
      | no large ↦
          let past : get_or c (8 * a + q / 64) 0 ≡ 0 = get_or-eq_default c 0 {n = 8 * a + q / 64} (omega (arith, long true e)) in
          absurd (false≢true (rw (past, zero-div (2 ^ (q % 64))) at one))
    ]

    -- and the numbers of every other point are 0
    yes_others : ((i : ℕ) → get_or c i 0 < 2 ^ 64) → (i : ℕ) → ¬ Outside (points s) (part side s f) (i / 8) → get_or c i 0 ≡ 0
    unfolding bit_of
    yes_others small i other = elim (dec_lt i 4096) [
      | yes l ↦ number_same 64 (get_or c i 0) 0 (small i) (pow_pos 64) (λ r h.
          let q : ℕ = 64 * (i % 8) + r in
          let number : 8 * (i / 8) + q / 64 ≡ i = omega arith in
          let place : q % 64 ≡ r = omega arith in
          let zero : bit_of c (i / 8) q ≡ false = sym (value_at (bit_of c (i / 8)) 512 q false (omega arith)) ∙ ((exact true e).0 refl).others (i / 8) (omega arith) other q in
          rw (number, place) at zero ∙ sym (ap odd (zero-div (2 ^ r))))
      | no l ↦ get_or-eq_default c 0 {n = i} (omega (arith, long true e))
    ]

    -- Judge accepts, and gives two equal ranks
    yes_judged : (j : Judgement) × JudgeAccepts graded n s f j × GivenEqual j side d
    yes_judged =
        let p = shown true e in (
          judged graded n s f,
          judge_accepts graded n s f p.filter,
          (equal_given graded n s f d p.low (few_taps n s f p.filter) side p.up).1 yes_ranks,
        )

  -- inputs that pass get a no where the ranks differ
  unequal : verdict (check_inputs s f n side d (length c)) ≡ Ok tt → ¬ EqualRanks graded n s f side d → Answers false
  unequal passed other = go (certifies graded n d (points s) (part side s f) c) (check_says graded s f n side d c passed)
    where
      go : (b : Bool) → Answers b → Answers false
      go true e = absurd (other (yes_ranks e))
      go false e = e

  -- where the ranks differ every certificate gets a no
  differ_no : (p q : ℕ) → Admitted s f n side d c → Rank (rows graded n d (points s)) p → Rank (rows graded n d (part side s f)) q → p ≢ q → Answers false
  differ_no p q held rank_of_set part_rank other = answers_no.1 (
    held,
    λ right.
        let (r, set, part) = (same_rank n d s f side).0 (certifies_equal graded n d side s f c right) in
        other (rank_unique rank_of_set set ∙ rank_unique part part_rank),
  )

  -- those that Judge gives
  differ_judged : (j : Judgement) → length c ≡ 4096 → side ≤ 1 → d ≤ n → JudgeAccepts graded n s f j → ¬ GivenEqual j side d → Answers false
  differ_judged j long up low e other =
      let (filter, same) = judge_accepted graded n s f j e in
      unequal (check_passes s f n side d (length c) filter up low long)
      (λ equal. other (subst (λ x. GivenEqual x side d) same ((equal_given graded n s f d low (few_taps n s f filter) side up).1 equal)))

module _ (s f : List ℕ) (n side d : ℕ) where
  -- Certify's outcome, with the comparison of the ranks behind the checks of its inputs
  compared : (m l : ℕ) → certify_outcome graded s f n side d m l
      ≡ checked (certify_inputs s f n side d m l) (checked (ranks_equal graded s f n side d) (accepted (certificate graded n s f side d)))
  unfolding certify_outcome
  compared m l = checked_append (certify_inputs s f n side d m l) (ranks_equal graded s f n side d) _

  -- the comparison refuses by 12 alone, and where the ranks differ
  twelve : (k : ℕ) → checked (ranks_equal graded s f n side d) (accepted (certificate graded n s f side d)) ≡ refused k → (k ≡ 12) × (¬ EqualRanks graded n s f side d)
  unfolding differs
  twelve k e = go (eqb (rank_of graded n d (points s)) (rank_of graded n d (part side s f))) refl
    where
      go : (z : Bool) → eqb (rank_of graded n d (points s)) (rank_of graded n d (part side s f)) ≡ z → (k ≡ 12) × (¬ EqualRanks graded n s f side d)
      go true q = absurd (not_both (sym (rw q at e)))
      go false q = let same : ◌≡◌ {A = Outcome (List ℕ)} (refused 12) (refused k) = rw q at e in (sym (cc same), eqb-false _ _ q)

  -- the checks of Check are those of Certify without the workspace and without 12
  as_certify : (c : List ℕ) (k : ℕ) → (check_outcome graded s f n side d c ≡ refused k) ↔ ((certify_outcome graded s f n side d 8192 (length c) ≡ refused k) × (k ≢ 12))
  unfolding check_outcome
  as_certify c k = (to, from)
    where
      inputs : List Check
      inputs = check_inputs s f n side d (length c)

      ranks : Outcome (List ℕ)
      ranks = checked (ranks_equal graded s f n side d) (accepted (certificate graded n s f side d))

      to : check_outcome graded s f n side d c ≡ refused k → (certify_outcome graded s f n side d 8192 (length c) ≡ refused k) × (k ≢ 12)
      to e = ⊎_elim
          (λ (x, broken, number). (
            compared 8192 (length c) ∙ verdict_refuses inputs ranks broken ∙ ap refused number,
            λ same. eqb-false _ 12 (refused_other 12 inputs refl broken) (number ∙ same),
          ))
          (λ (_, q). absurd (not_both (sym q)))
          (refused_either inputs _ k e)

      from : (certify_outcome graded s f n side d 8192 (length c) ≡ refused k) × (k ≢ 12) → check_outcome graded s f n side d c ≡ refused k
      from (e, other) = ⊎_elim
          (λ (x, broken, number). verdict_refuses inputs _ broken ∙ ap refused number)
          (λ (_, q). absurd (other (twelve k q).0))
          (refused_either inputs ranks k (sym (compared 8192 (length c)) ∙ e))

  -- each certificate that Certify writes gets a yes
  written_yes : (m l : ℕ) (c : List ℕ) → certify_outcome graded s f n side d m l ≡ accepted c → CheckAccepts graded n s f side d c true
  written_yes m l c e =
      let (passed, _) = accepted_passes (certify_inputs s f n side d m l) _ c (sym (compared m l) ∙ e) in
      let p = certify_passed n s f side d m l passed in
      let (workspace_long, certificate-long) = certify_lengths n s f side d m l passed in
      let accepts : certify_outcome graded s f n side d 8192 4096 ≡ accepted c =
      ap₂ (λ i j. certify_outcome graded s f n side d i j) (sym workspace_long) (sym certificate-long) ∙ e in
      let right : Certifies graded n d (points s) (part side s f) c = is_certifies (part_rising side s f) (certify_words n s f side d c accepts).is in
      let inputs = check_passes s f n side d (length c) p.filter p.up p.low right.long in
      let says = check_says graded s f n side d c inputs in
      says ∙ ap accepted ((exact s f n side d c _ says).1 right)

  -- where Certify refuses by 12, every 4,096 numbers get a no
  refused_no : (m l : ℕ) (c : List ℕ) → length c ≡ 4096 → certify_outcome graded s f n side d m l ≡ refused 12 → CheckAccepts graded n s f side d c false
  refused_no m l c long e = ⊎_elim
      (λ (x, broken, number). absurd (eqb-false _ 12 (refused_other 12 (certify_inputs s f n side d m l) refl broken) number))
      (λ (passed, q). let p = certify_passed n s f side d m l passed in
      unequal s f n side d c (check_passes s f n side d (length c) p.filter p.up p.low long) (twelve 12 q).1)
      (refused_either (certify_inputs s f n side d m l) _ 12 (sym (compared m l) ∙ e))

-- each sentence of it
pub any_certificate : AnyCertificate
any_certificate = record {
  refuses = check_refuses;
  refuses_as_certify = as_certify;
  exact = exact;
  yes_bits = yes_bits;
  yes_others = yes_others;
  says_yes = λ s f n side d c r h. (
    λ is. (answers_yes s f n side d c).0 (sym h.answers ∙ ap outcome_of is),
    λ right. accepted_answer r (h.answers ∙ (answers_yes s f n side d c).1 right),
  );
  says_no = λ s f n side d c r h. (
    λ is. (answers_no s f n side d c).0 (sym h.answers ∙ ap outcome_of is),
    λ wrong. accepted_answer r (h.answers ∙ (answers_no s f n side d c).1 wrong),
  );
  says_number = λ s f n side d c r k h. (
    λ is. (check_refuses s f n side d c k).0 (sym h.answers ∙ is),
    λ broken. h.answers ∙ (check_refuses s f n side d c k).1 broken,
  );
  yes_equal = λ s f n side d c e. (same_rank n d s f side).0 (yes_ranks s f n side d c e);
  yes_judged = yes_judged;
  yes_none = λ s f n side d c e.
      (equal_none graded_is_graded (few_taps n s f (shown s f n side d c true e).filter) d (points s) (part side s f) (part_among side s f)).0 (yes_ranks s f n side d c e);
  written_yes = written_yes;
  left_yes = λ s f n side d ws ws' c c' r h k. accepted_answer r (k.answers ∙ written_yes s f n side d (length ws) (length c) c' (sym h.answers));
  differ_no = differ_no;
  differ_judged = differ_judged;
  refused_no = refused_no;
}
