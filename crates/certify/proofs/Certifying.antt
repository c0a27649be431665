-- What Certify answers and leaves.
--   in_order       what is answered and left in an equal order
--   refuses        a broken check of the inputs
--   ranks_differ   the ranks differ
--   accepts        they do not
use mathlib.Core.Path.{◌≡◌, refl, sym, ap, ◌∙◌, subst}
use mathlib.Core.Bool.{true, false}
use mathlib.Core.List.{List}
use Prim.Native.Nat.{ℕ}
use Rattle.std.specs.Prelude.{Ok, Err}
use lib.Dec.{eqb}
use lib.ListN.{length}
use Rattle.refusal.specs.declared.Refusal.{Refusal}
use Rattle.refusal.specs.declared.Refusal.TheVariants.{RanksDiffer}
use Rattle.refusal.specs.Refusal.{number_of}
use Rattle.refusal.specs.Outcome.{Outcome, refused, accepted, Check, left_by}
use Rattle.refusal.specs.Verdict.{Verdict, verdict}
use Rattle.refusal.proofs.Verdicts.{checked_append, verdict_refuses, refused_other}
use Rattle.cube.specs.Mask.{points}
use Rattle.packed.specs.Packed.{zeros}
use Rattle.filter.specs.Part.{part}
use Rattle.matrix.specs.Matrix.{rank_of}
use Rattle.immunity.specs.Judgement.{differs}
use Rattle.immunity.specs.Certificate.{certificate}
use Rattle.certify.specs.Certify.{certify_inputs, ranks_equal, certify_outcome, zero_if, cleared_unless, CertifyContract}
use Rattle.certify.proofs.Compared.{certify_compares}

module _ (o s f : List ℕ) (n side d : ℕ) (ws c : List ℕ) where
  -- the checks of what is lent
  abbrev inputs : List Check
  inputs = certify_inputs s f n side d (length ws) (length c)

  -- what Certify answers and leaves of it
  abbrev outcome : Outcome (List ℕ)
  outcome = certify_outcome o s f n side d (length ws) (length c)

  -- the same in an equal order
  pub in_order : {o' : List ℕ} → o ≡ o' → {ws' c' : List ℕ} {r : Verdict} → CertifyContract outcome ws ws' c c' r
      → CertifyContract (certify_outcome o' s f n side d (length ws) (length c)) ws ws' c c' r
  in_order e {ws'} {c'} {r} h = subst (λ x. CertifyContract (certify_outcome x s f n side d (length ws) (length c)) ws ws' c c' r) e h

  -- a broken check of the inputs, which is not 12
  pub refuses : {x : Refusal} → verdict inputs ≡ Err x → CertifyContract outcome ws ws c c (Err x)
  unfolding certify_outcome
  refuses {x} e =
      let broken : outcome ≡ refused (number_of x) = checked_append inputs (ranks_equal o s f n side d) _ ∙ verdict_refuses inputs _ e in
      let other : eqb (number_of x) (number_of RanksDiffer) ≡ false = refused_other (number_of RanksDiffer) inputs refl e in
      record {
        answers = sym broken;
        leaves = sym (ap (λ y. cleared_unless y ws) broken ∙ ap (λ z. zero_if z ws) other);
        leaves_certificate = sym (ap (λ (y : Outcome (List ℕ)). left_by y c (λ z. z)) broken);
      }

  module _ (passed : verdict inputs ≡ Ok tt) {ws' c' : List ℕ} (zero : ws' ≡ zeros (length ws)) where
    -- the ranks differ
    pub ranks_differ : eqb (rank_of o n d (points s)) (rank_of o n d (part side s f)) ≡ false → c' ≡ c → CertifyContract outcome ws ws' c c' (Err RanksDiffer)
    unfolding differs
    ranks_differ other same =
        let e : outcome ≡ refused (number_of RanksDiffer) = certify_compares n s f side d o (length ws) (length c) passed ∙ rw other in
        record {
          answers = sym e;
          leaves = zero ∙ sym (ap (λ y. cleared_unless y ws) e);
          leaves_certificate = same ∙ sym (ap (λ (y : Outcome (List ℕ)). left_by y c (λ z. z)) e);
        }

    -- they do not
    pub accepts : eqb (rank_of o n d (points s)) (rank_of o n d (part side s f)) ≡ true → c' ≡ certificate o n s f side d → CertifyContract outcome ws ws' c c' (Ok tt)
    unfolding differs
    accepts equal found =
        let e : outcome ≡ accepted (certificate o n s f side d) = certify_compares n s f side d o (length ws) (length c) passed ∙ rw equal in
        record {
          answers = ap accepted found ∙ sym e;
          leaves = zero ∙ sym (ap (λ y. cleared_unless y ws) e);
          leaves_certificate = found ∙ sym (ap (λ (y : Outcome (List ℕ)). left_by y c (λ z. z)) e);
        }
