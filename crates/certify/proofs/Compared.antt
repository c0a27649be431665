-- What the checks of Certify's inputs show, and what is left to check.
--   certify_passed     checks that pass show a filter at a degree and a side
--   certify_lengths    and the lengths of the workspace and of the certificate
--   inputs_pass        those of a filter, at a degree up to n and a side up to 1, pass
--   certify_compares   where they pass, only the ranks are left to compare
--   certify_accepts    Certify accepts each side and degree at which they are equal, and writes the definition's certificate
use mathlib.Core.Path.{◌≡◌, refl, ◌∙◌}
use mathlib.Core.List.{List}
use Prim.Native.Nat.{ℕ, ◌≤◌}
use Rattle.std.specs.Prelude.{Ok}
use borrow.Author.Tests.{eqb-true, eq-eqb}
use Rattle.refusal.specs.Outcome.{accepted, checked}
use Rattle.refusal.specs.Verdict.{verdict}
use Rattle.refusal.proofs.Verdicts.{passed_all, all_passed, verdict_passes, checked_append}
use Rattle.filter.specs.Filter.{Filter}
use Rattle.filter.proofs.AtDegree.{AtDegree, at_degree_lem, at_degree_passes}
use Rattle.immunity.specs.Judgement.{EqualRanks, differs}
use Rattle.immunity.specs.Certificate.{certificate}
use Rattle.certify.specs.Certify.{certify_inputs, ranks_equal, certify_outcome, CertifyAccepts}

module _ (n : ℕ) (s f : List ℕ) (side d : ℕ) where
  -- checks that pass show a filter at a degree and a side
  pub certify_passed : (m l : ℕ) → verdict (certify_inputs s f n side d m l) ≡ Ok tt → AtDegree n s f side d
  certify_passed m l e =
      let (set, (table, (_, (_, rest)))) = passed_all (certify_inputs s f n side d m l) e in
      at_degree_lem n s f side d set table rest

  -- and the lengths of the workspace and of the certificate
  pub certify_lengths : (m l : ℕ) → verdict (certify_inputs s f n side d m l) ≡ Ok tt → (m ≡ 8192) × (l ≡ 4096)
  certify_lengths m l e =
      let (_, (_, (workspace, (certificate, _)))) = passed_all (certify_inputs s f n side d m l) e in
      (eqb-true m 8192 workspace, eqb-true l 4096 certificate)

  -- those of a filter pass
  pub inputs_pass : Filter n s f → side ≤ 1 → d ≤ n → verdict (certify_inputs s f n side d 8192 4096) ≡ Ok tt
  inputs_pass h up low =
      let (set, table, rest) = at_degree_passes n s f side d (record { filter = h; low = low; up = up }) in
      all_passed (certify_inputs s f n side d 8192 4096) (set, (table, (refl, (refl, rest))))

  module _ (o : List ℕ) where
    -- only the ranks are left to compare
    pub certify_compares : (m l : ℕ) → verdict (certify_inputs s f n side d m l) ≡ Ok tt
        → certify_outcome o s f n side d m l ≡ checked (ranks_equal o s f n side d) (accepted (certificate o n s f side d))
    unfolding certify_outcome
    certify_compares m l e = checked_append (certify_inputs s f n side d m l) (ranks_equal o s f n side d) _ ∙ verdict_passes (certify_inputs s f n side d m l) _ e

    -- Certify accepts each side and degree at which the ranks are equal, and writes the definition's certificate
    pub certify_accepts : Filter n s f → side ≤ 1 → d ≤ n → EqualRanks o n s f side d
        → CertifyAccepts o n s f side d (certificate o n s f side d)
    unfolding differs
    certify_accepts h up low e = certify_compares 8192 4096 (inputs_pass h up low) ∙ rw (eq-eqb _ _ e)
