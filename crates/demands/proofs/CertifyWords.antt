-- The sentences on what Certify writes hold.
--   certify_words   each of them
use mathlib.Core.Path.{◌≡◌, ◌∙◌}
use mathlib.Core.Bool.{false}
use mathlib.Core.List.{List, ◌++◌}
use Prim.Native.Nat.{ℕ}
use borrow.Author.Tests.{eqb-true, not-true, not-false}
use Rattle.cube.specs.Mask.{points}
use Rattle.cube.proofs.Masks.{value_at}
use Rattle.order.specs.BuiltIn.{graded}
use Rattle.refusal.proofs.Verdicts.{all_append, passed_all, all_passed, accepted_passes}
use Rattle.filter.specs.Filter.{Filter}
use Rattle.filter.specs.Part.{part}
use Rattle.filter.proofs.Filters.{set_below}
use Rattle.immunity.specs.Judgement.{EqualRanks, differs}
use Rattle.immunity.specs.Certificate.{bit_of, IsCertificate, certificate}
use Rattle.immunity.proofs.PartPoints.{part_rising}
use Rattle.immunity.proofs.Certificates.{certificate_is}
use Rattle.immunity.proofs.CertificateNumbers.{certificate_numbers, certificate_only}
use Rattle.certify.specs.Certify.{certify_inputs, ranks_equal, certify_outcome, CertifyAccepts}
use Rattle.certify.proofs.Compared.{certify_passed}
use Rattle.demands.specs.JudgementWords.{CertifyWords}
use Rattle.demands.proofs.Eliminations.{kept_just}

-- each of them, where the ranks are equal
written : (n : ℕ) (s f : List ℕ) (side d : ℕ) → Filter n s f → EqualRanks graded n s f side d → CertifyWords n s f side d (certificate graded n s f side d)
written n s f side d p equal = record {
  is = is;
  named_kept = λ a q out l e. (kept_just n d (part side s f) (part_rising side s f) q).0 ((is.sums a out).only q (value_at (bit_of (certificate graded n s f side d) a) 512 q false l ∙ e));
  numbers = certificate_numbers graded n s f side d;
  only = λ b x l. certificate_only b (certificate graded n s f side d) x is l (certificate_numbers graded n s f side d);
}
  where
    is : IsCertificate graded n d (points s) (part side s f) (certificate graded n s f side d)
    is = certificate_is graded n d s f side (set_below n s f p) equal

-- each of them
pub certify_words : (n : ℕ) (s f : List ℕ) (side d : ℕ) (c : List ℕ) → CertifyAccepts graded n s f side d c → CertifyWords n s f side d c
unfolding certify_outcome differs
certify_words n s f side d c e =
    let cs = certify_inputs s f n side d 8192 4096 in
    let (holds, same) = accepted_passes (cs ++ ranks_equal graded s f n side d) _ c e in
    let (inputs, (equal, _)) = (all_append cs (ranks_equal graded s f n side d)).0 (passed_all (cs ++ ranks_equal graded s f n side d) holds) in
    let shown = certify_passed n s f side d 8192 4096 (all_passed cs inputs) in
    let is : certificate graded n s f side d ≡ c = cc in
    rw (← is) (written n s f side d shown.filter (eqb-true _ _ (not-false _ (not-true _ equal))))
