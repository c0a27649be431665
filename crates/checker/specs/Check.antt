-- Check: docs/SPECIFICATION.md, 'Check'.
--   check_inputs s f n side d l        the checks of Check, lent the set s, the table f and a certificate of l numbers
--   check_outcome o s f n side d c     what Check answers in the order o: the first refusal, or whether c is a certificate
--   CheckContract o s f n side d c r   the contract of Check: r states the outcome in the order o, and is yes exactly for a certificate
--   CheckAccepts o n s f side d c b    Check accepts n taps, the set s, the table f, a side, a degree and the length of c, and answers yes, where b is true, or no
use Rattle.std.specs.Prelude.{◌≡◌, ◌↔◌, Bool, true, List, ◌++◌, ℕ, length, Result}
use Rattle.cube.specs.Mask.{points}
use Rattle.refusal.specs.Outcome.{Outcome, accepted, Check, checked, outcome_of}
use Rattle.refusal.specs.declared.Refusal.{Refusal}
use Rattle.filter.specs.Checks.{length_is, taps_of, degree_up_to, side_up_to_1, filter_lengths, filter_masks}
use Rattle.filter.specs.Part.{part}
use Rattle.immunity.specs.Certificate.{Certifies}
use Rattle.immunity.specs.CertificateTest.{certifies}

-- those of Certify without the workspace and without 12: lengths, taps, the set's bytes, the table's bytes, the degree, the side
abbrev pub check_inputs : List ℕ → List ℕ → ℕ → ℕ → ℕ → ℕ → List Check
check_inputs s f n side d l =
    filter_lengths s f ++ length_is l 4096 ++ taps_of n ++ filter_masks n s f ++ degree_up_to d n ++ side_up_to_1 side

-- the first refusal, or whether the numbers are a certificate
unfoldable pub check_outcome : List ℕ → List ℕ → List ℕ → ℕ → ℕ → ℕ → List ℕ → Outcome Bool
check_outcome o s f n side d c =
    checked (check_inputs s f n side d (length c)) (accepted (certifies o n d (points s) (part side s f) c))

-- what is answered; and where that is yes or no, it is yes exactly for a certificate, whoever made it
pub record CheckContract (o s f : List ℕ) (n side d : ℕ) (c : List ℕ) (r : Result Bool Refusal) : Type 0 where
  pub answers : outcome_of r ≡ check_outcome o s f n side d c
  pub exact : (b : Bool) → outcome_of r ≡ accepted b → (b ≡ true) ↔ Certifies o n d (points s) (part side s f) c

-- Check accepts its inputs, and answers yes, where b is true, or no
abbrev pub CheckAccepts : List ℕ → ℕ → List ℕ → List ℕ → ℕ → ℕ → List ℕ → Bool → Type 0
CheckAccepts o n s f side d c b = check_outcome o s f n side d c ≡ accepted b
