-- What is accepted while a sheet is made.
--   answered        what Judge answers of a filter that it accepts
--   judge_found     what it answers states the judgement of the filter
--   judge_none      without a report there is no point
--   no_point_lines  the lines of its sheet then
--   sums_accepted   Certify accepts each side at each degree below the reported one
--   certified_is    and writes the certificate
use mathlib.Core.Path.{◌≡◌, sym, ap, ap₂, ◌∙◌}
use mathlib.Core.List.{List, [], ◌++◌, append-nil}
use Rattle.std.specs.Prelude.{Option, None, Some, Result, Ok}
use Prim.Native.Nat.{ℕ, ◌≤◌, ◌<◌}
use native.Mathlib.Omega.{arith}
use lib.ListN.{length}
use Rattle.refusal.specs.Outcome.{accepted, left_by}
use Rattle.refusal.specs.Verdict.{Verdict}
use Rattle.refusal.proofs.Outcomes.{accepted_value}
use Rattle.refusal.specs.declared.Refusal.{Refusal}
use Rattle.order.specs.BuiltIn.{graded}
use Rattle.order.proofs.BuiltIn.{graded_is_graded}
use Rattle.cube.specs.Mask.{points}
use Rattle.filter.specs.Sides.{Sides, pair}
use Rattle.filter.proofs.Filters.{few_taps}
use Rattle.immunity.specs.Judgement.{Judgement, judged}
use Rattle.immunity.specs.declared.Ranks.{Ranks}
use Rattle.immunity.specs.Certificate.{certificate}
use Rattle.immunity.proofs.Reported.{reported_first}
use Rattle.immunity.proofs.NoPoint.{none_empty}
use Rattle.judge.specs.declared.JudgeAnswer.{JudgeAnswer}
use Rattle.judge.specs.declared.Report.{Report}
use Rattle.judge.specs.Judge.{judge_outcome, no_point_judgement, found, outcome_of, JudgeContract, JudgeAccepts}
use Rattle.judge.proofs.Passed.{judge_accepted}
use Rattle.certify.specs.Certify.{certify_outcome, CertifyContract, CertifyAccepts}
use Rattle.certify.proofs.Compared.{certify_accepts}
use Rattle.sheet_lines.specs.Lines.{first_line, rank_lines, degree_line, sides_line, additions_line}
use Rattle.sheet_text.specs.Sheet.{judgement_sheet}

module _ (n : ℕ) (s f : List ℕ) (a : JudgeAccepts graded n s f (judged graded n s f)) where
  -- what is answered is what Judge accepts
  pub answered : {m p q i : ℕ} → m ≡ 8192 → p ≡ 512 → q ≡ 512 → i ≡ 512 → {ws ws' : List ℕ} {w w' : Sides (List ℕ)} {kept kept' : List ℕ} {r : Result JudgeAnswer Refusal}
      → JudgeContract (judge_outcome graded s f n m p q i) ws ws' w w' kept kept' r → outcome_of r w' kept' ≡ accepted (judged graded n s f)
  answered {q = q} {i = i} l l₁ l₀ l₂ h =
      h.answers ∙ ap₂ (λ x y. judge_outcome graded s f n x y q i) l l₁ ∙ ap₂ (judge_outcome graded s f n 8192 512) l₀ l₂ ∙ a

  module _ (r : Result JudgeAnswer Refusal) (w : Sides (List ℕ)) (kept : List ℕ) (says : outcome_of r w kept ≡ accepted (judged graded n s f)) where
    -- the judgement
    pub judge_found : (x : JudgeAnswer) → r ≡ Ok x → (y : Option Report) → x.report ≡ y → found y x.ranks w kept ≡ judged graded n s f
    judge_found x e y g = ap (λ z. found z x.ranks w kept) (sym g) ∙ accepted_value (ap (λ z. outcome_of z w kept) (sym e) ∙ says)

    -- without a report there is no point
    pub judge_none : (x : JudgeAnswer) → r ≡ Ok x → x.report ≡ None → points s ≡ []
    unfolding judged
    judge_none x e g =
        none_empty graded_is_graded n s f (judge_accepted graded n s f (judged graded n s f) a).0 (sym (ap (λ (j : Judgement). j.degree) (judge_found x e None g)))

  -- Certify accepts each side at each degree below the reported one
  pub sums_accepted : (k : ℕ) → (judged graded n s f).degree ≡ Some k → (d side : ℕ) → d < k → side ≤ 1
      → CertifyAccepts graded n s f side d (certificate graded n s f side d)
  unfolding judged
  sums_accepted k e d side l m =
      let filter = (judge_accepted graded n s f (judged graded n s f) a).0 in
      let r = reported_first graded_is_graded (few_taps n s f filter) s f k e in
      certify_accepts n s f side d graded filter m (omega (arith, r.within)) (r.before side d m l)

-- the lines of the sheet of a set without a point
pub no_point_lines : (n : ℕ) (s f : List ℕ) → points s ≡ [] → (ranks : List Ranks) (w : Sides (List ℕ)) (kept : List ℕ)
    → first_line n 0 None ++ rank_lines n ranks ++ degree_line None None (pair [] []) ++ sides_line (pair None None) ++ additions_line 0 ≡ judgement_sheet n s f (no_point_judgement ranks w kept)
unfolding judgement_sheet
no_point_lines n s f empty ranks w kept =
    ap (λ x. x ++ additions_line 0) (sym (append-nil (first_line n 0 None ++ rank_lines n ranks ++ degree_line None None (pair [] []) ++ sides_line (pair None None))))
    ∙ sym (ap (λ (ps : List ℕ). first_line n (length ps) None ++ rank_lines n ranks ++ degree_line None None w ++ sides_line (pair None None) ++ [] ++ additions_line 0) empty)

-- and writes the certificate
pub certified_is : (n : ℕ) (s f : List ℕ) (side d : ℕ) → CertifyAccepts graded n s f side d (certificate graded n s f side d) → {i j : ℕ} → i ≡ 8192 → j ≡ 4096
    → {ws ws' c c' : List ℕ} {r : Verdict} → CertifyContract (certify_outcome graded s f n side d i j) ws ws' c c' r → c' ≡ certificate graded n s f side d
certified_is n s f side d a l m {c = c} h =
    h.leaves_certificate ∙ ap (λ o. left_by o c (λ x. x)) (ap₂ (λ i j. certify_outcome graded s f n side d i j) l m ∙ a)
