-- What Check answers.
--   check_shown          inputs that pass the checks show a filter at a degree and a side
--   check_length         and the length of the certificate
--   check_passes         those of a filter, with a certificate of the right length, pass
--   check_says           where they pass, the answer is whether the numbers are a certificate
--   check_accepted       where there is an answer, they pass
--   check_exact          it is yes just for a certificate
--   check_refuses        the contract, where a check is broken
--   check_answers        and where none is
--   rows_checked         the test of all rows by sums over supersets is that of a certificate
use mathlib.Core.Path.{◌≡◌, sym, ap, ap₂, ◌∙◌}
use mathlib.Core.Logic.{◌↔◌}
use mathlib.Core.Bool.{Bool, true, ◌&&◌}
use mathlib.Core.List.{List, []}
use Prim.Native.Nat.{ℕ, ◌≤◌}
use Rattle.std.specs.Prelude.{Result, Ok, Err}
use lib.ListN.{length, get_or}
use Rattle.std.specs.Simd.{first_chunks}
use borrow.Author.Tests.{eqb-true, eq-eqb}
use Rattle.refusal.specs.Outcome.{accepted, outcome_of}
use Rattle.refusal.specs.Verdict.{verdict}
use Rattle.refusal.specs.declared.Refusal.{Refusal}
use Rattle.refusal.proofs.Outcomes.{accepted_value}
use Rattle.refusal.proofs.Verdicts.{passed_all, all_passed, verdict_refuses, verdict_passes, accepted_passes}
use Rattle.cube.specs.NumberLists.{all_below}
use Rattle.cube.specs.Mask.{points}
use Rattle.cube.proofs.AllBelow.{all_same}
use Rattle.order.specs.Order.{Graded}
use Rattle.gf2.specs.Vector.{Row}
use Rattle.packed.specs.Packed.{unpack}
use Rattle.packed.proofs.Rows.{chunk_words}
use Rattle.filter.specs.Filter.{Filter}
use Rattle.filter.specs.Part.{part}
use Rattle.filter.proofs.Filters.{few_taps, set_below}
use Rattle.filter.proofs.AtDegree.{AtDegree, at_degree_lem, at_degree_passes}
use Rattle.immunity.specs.Certificate.{Certifies}
use Rattle.immunity.specs.CertificateTest.{right_row, certifies}
use Rattle.immunity.proofs.CertificateTest.{certifies_says}
use Rattle.checker.specs.Check.{check_inputs, check_outcome, CheckContract}
use Rattle.checker.specs.CheckedRows.{others_row, columns_row, checked_row}
use Rattle.checker.proofs.CheckedRows.{row_checked}

module _ (s f : List ℕ) (n side d l : ℕ) where
  -- inputs that pass the checks show a filter at a degree and a side
  pub check_shown : verdict (check_inputs s f n side d l) ≡ Ok tt → AtDegree n s f side d
  check_shown e = let (set, (table, (_, rest))) = passed_all (check_inputs s f n side d l) e in at_degree_lem n s f side d set table rest

  -- and the length of the certificate
  pub check_length : verdict (check_inputs s f n side d l) ≡ Ok tt → l ≡ 4096
  check_length e = let (_, (_, (certificate, _))) = passed_all (check_inputs s f n side d l) e in eqb-true l 4096 certificate

  -- those of a filter, with a certificate of the right length, pass
  pub check_passes : Filter n s f → side ≤ 1 → d ≤ n → l ≡ 4096 → verdict (check_inputs s f n side d l) ≡ Ok tt
  check_passes h up low e =
      let (set, table, rest) = at_degree_passes n s f side d (record { filter = h; low = low; up = up }) in
      all_passed (check_inputs s f n side d l) (set, (table, (eq-eqb l 4096 e, rest)))

module _ (o s f : List ℕ) (n side d : ℕ) (c : List ℕ) where
  -- where the inputs pass, the answer is whether the numbers are a certificate
  pub check_says : verdict (check_inputs s f n side d (length c)) ≡ Ok tt → check_outcome o s f n side d c ≡ accepted (certifies o n d (points s) (part side s f) c)
  unfolding check_outcome
  check_says e = verdict_passes (check_inputs s f n side d (length c)) _ e

  -- where there is an answer, they pass
  pub check_accepted : (b : Bool) → check_outcome o s f n side d c ≡ accepted b → (verdict (check_inputs s f n side d (length c)) ≡ Ok tt) × (certifies o n d (points s) (part side s f) c ≡ b)
  unfolding check_outcome
  check_accepted b e = let (passed, same) = accepted_passes (check_inputs s f n side d (length c)) _ b e in (passed, accepted_value same)

  -- it is yes just for a certificate
  pub check_exact : (b : Bool) → check_outcome o s f n side d c ≡ accepted b → (b ≡ true) ↔ Certifies o n d (points s) (part side s f) c
  check_exact b e =
      let (passed, test) = check_accepted b e in
      let says = certifies_says o n d (points s) (part side s f) c (set_below n s f (check_shown s f n side d (length c) passed).filter) in
      (λ yes. says.0 (test ∙ yes), λ x. sym test ∙ says.1 x)

  -- so the contract of Check is that it answers the outcome
  answered : {r : Result Bool Refusal} → outcome_of r ≡ check_outcome o s f n side d c → CheckContract o s f n side d c r
  answered e = record { answers = e; exact = λ b q. check_exact b (sym e ∙ q) }

  -- the contract, where a check is broken
  pub check_refuses : {x : Refusal} → verdict (check_inputs s f n side d (length c)) ≡ Err x → CheckContract o s f n side d c (Err x)
  unfolding check_outcome
  check_refuses e = answered (sym (verdict_refuses (check_inputs s f n side d (length c)) _ e))

  -- and where none is
  pub check_answers : {b : Bool} → verdict (check_inputs s f n side d (length c)) ≡ Ok tt → b ≡ certifies o n d (points s) (part side s f) c
      → CheckContract o s f n side d c (Ok b)
  check_answers e test = answered (ap accepted test ∙ sym (check_says e))

-- the test of all rows by sums over supersets is that of a certificate
pub rows_checked : {o : List ℕ} → Graded o → {n : ℕ} {s f : List ℕ} → Filter n s f → (side d : ℕ) (b c : List ℕ) → points b ≡ part side s f → length b ≡ 512 → length c ≡ 4096
    → {y z : Row} → y ≡ others_row b → z ≡ columns_row n d
    → all_below 512 (λ a. checked_row s b y z (unpack (get_or (first_chunks 8 512 c) a [])) a) ≡ certifies o n d (points s) (part side s f) c
unfolding certifies
rows_checked {o} g {n} {s} {f} p side d b c parts small long others columns =
    ap₂ (λ y z. all_below 512 (λ a. checked_row s b y z (unpack (get_or (first_chunks 8 512 c) a [])) a)) others columns
    ∙ all_same 512 (λ a. checked_row s b (others_row b) (columns_row n d) (unpack (get_or (first_chunks 8 512 c) a [])) a) (right_row o n d (points s) (points b) c)
    (λ a l. ap (λ w. checked_row s b (others_row b) (columns_row n d) (unpack w) a) (chunk_words 512 c a l) ∙ row_checked g (few_taps n s f p) d s b c small long a l)
    ∙ ap (λ ps. all_below 512 (right_row o n d (points s) ps c)) parts
    ∙ sym (ap (λ x. x && all_below 512 (right_row o n d (points s) (part side s f) c)) (eq-eqb (length c) 4096 long))
