-- Certify: docs/SPECIFICATION.md, 'Certify'.
--   certify_inputs s f n side d m l   the checks of the inputs, lent the set s, the table f, a workspace of m and a certificate of l numbers
--   ranks_equal o s f n side d        12: at degree d the ranks of the set and of the side's part are equal
--   certify_outcome o s f n ..        what Certify writes in the order o: the first refusal, or the certificate
--   PartKept o n d b m                the mask m that Certify goes by marks the kept points of the mask b, that of a part, at degree d
--   zero_if b ws                      a buffer that is zero, or as it was
--   cleared_unless o ws               the workspace as Certify leaves it: zero after acceptance and after 12, else as it was
--   outcome_of r c                    what an answer, with the certificate at exit, states
--   CertifyContract o ..              the contract of Certify: it answers the outcome o, and leaves what that says
--   CertifyAccepts o n s f side d c   Certify accepts n taps, the set s and the table f at a side and a degree, lent buffers of the right lengths, and writes c
use Rattle.std.specs.Prelude.{◌≡◌, Bool, true, false, not, List, [], ◌∷◌, ◌++◌, ℕ, eqb, length}
use Rattle.refusal.specs.Refusal.{number_of}
use Rattle.refusal.specs.Outcome.{Outcome, refused, accepted, Check, ◌otherwise◌, checked, left_by, outcome_by}
use Rattle.refusal.specs.Verdict.{Verdict}
use Rattle.refusal.specs.declared.Refusal.TheVariants.{RanksDiffer}
use Rattle.cube.specs.Mask.{points}
use Rattle.packed.specs.Packed.{zeros}
use Rattle.matrix.specs.Kept.{kept_mask}
use Rattle.filter.specs.Checks.{length_is, taps_of, degree_up_to, side_up_to_1, filter_lengths, filter_masks}
use Rattle.immunity.specs.Judgement.{differs}
use Rattle.immunity.specs.Certificate.{certificate}

-- lengths, taps, the set's bytes, the table's bytes, the degree, the side
abbrev pub certify_inputs : List ℕ → List ℕ → ℕ → ℕ → ℕ → ℕ → ℕ → List Check
certify_inputs s f n side d m l =
    filter_lengths s f ++ length_is m 8192 ++ length_is l 4096 ++ taps_of n ++ filter_masks n s f ++ degree_up_to d n ++ side_up_to_1 side

-- and then that the ranks are equal
abbrev pub ranks_equal : List ℕ → List ℕ → List ℕ → ℕ → ℕ → ℕ → List Check
ranks_equal o s f n side d = not (differs o n s f d side) otherwise RanksDiffer ∷ []

-- the first refusal, or the certificate
unfoldable pub certify_outcome : List ℕ → List ℕ → List ℕ → ℕ → ℕ → ℕ → ℕ → ℕ → Outcome (List ℕ)
certify_outcome o s f n side d m l =
    checked (certify_inputs s f n side d m l ++ ranks_equal o s f n side d) (accepted (certificate o n s f side d))

-- the mask marks the kept points of a part's mask
abbrev pub PartKept : List ℕ → ℕ → ℕ → List ℕ → List ℕ → Type 0
PartKept o n d b m = m ≡ kept_mask o n d (points b)

-- zero, or as it was
abbrev pub zero_if : Bool → List ℕ → List ℕ
zero_if true ws = zeros (length ws)
zero_if false ws = ws

-- after acceptance and after 12 the workspace is zero
abbrev pub cleared_unless : Outcome (List ℕ) → List ℕ → List ℕ
cleared_unless (refused k) ws = zero_if (eqb k (number_of RanksDiffer)) ws
cleared_unless (accepted c) ws = zeros (length ws)

-- the number of an answer, or the certificate
abbrev pub outcome_of : Verdict → List ℕ → Outcome (List ℕ)
outcome_of r c = outcome_by r (λ u. c)

-- what is answered, and how the workspace and the certificate are left
pub record CertifyContract (o : Outcome (List ℕ)) (ws ws' c c' : List ℕ) (r : Verdict) : Type 0 where
  pub answers : outcome_of r c' ≡ o
  pub leaves : ws' ≡ cleared_unless o ws
  pub leaves_certificate : c' ≡ left_by o c (λ x. x)

-- Certify accepts the taps, the set and the table at a side and a degree, lent buffers of the right lengths, and writes the certificate c
abbrev pub CertifyAccepts : List ℕ → ℕ → List ℕ → List ℕ → ℕ → ℕ → List ℕ → Type 0
CertifyAccepts o n s f side d c = certify_outcome o s f n side d 8192 4096 ≡ accepted c
