-- The numbers of a report: the six behind the ranks, and what they stand for.
--   flat_last         the six numbers behind the ranks of all degrees
--   behind_ranks      where they stand in a report
--   number_most       the number of a degree up to 9, or of none, is at most 10
--   number_stands     a number over all that there may be stands for none
--   stands            so does each number of a report, behind the ranks
--   reportable        what Judge answers can be reported, where the judgements that are accepted fit
use mathlib.Core.Path.{◌≡◌, refl, sym, ap, ap₂, ◌∙◌}
use mathlib.Core.List.{List, [], ◌∷◌, ◌++◌, append_assoc}
use Rattle.std.specs.Prelude.{Option, None, Some, unwrap_or, IfSome, Result, Ok, Err}
use Rattle.refusal.specs.declared.Refusal.{Refusal}
use Rattle.std.proofs.lemmas.Option.{none-some, same_Some}
use Prim.Native.Nat.{ℕ, ◌+◌, ◌≤◌, ◌<◌}
use native.Mathlib.Omega.{arith}
use lib.ListN.{length, get_or, take}
use lib.Seq.{take_all, get_or-append-add}
use Rattle.refusal.specs.Outcome.{Outcome, accepted}
use Rattle.filter.specs.Sides.{Sides}
use Rattle.immunity.specs.declared.Ranks.{Ranks}
use Rattle.immunity.specs.Ranks.{flat}
use Rattle.immunity.specs.Judgement.{Judgement}
use Rattle.judge.specs.declared.JudgeAnswer.{JudgeAnswer}
use Rattle.judge.specs.declared.Report.{Report}
use Rattle.judge.specs.Judge.{judgement_of, found, JudgeContract}
use Rattle.judge.proofs.Passed.{Fits}
use Rattle.immunity.proofs.Flat.{stored, length_stored, take_stored, length_flat}
use Rattle.judge_report.specs.Report.{degree_number, side_number, numbers, report_of, StandsFor, Bounded, Reportable}

-- the six numbers behind the ranks of all degrees
pub flat_last : (out : List ℕ) (rs : List Ranks) (k side : Option ℕ) (a : ℕ) (ks : Sides (Option ℕ)) (m : Option ℕ) {x y : ℕ} → length out ≡ 36 → take 30 out ≡ flat rs
    → x ≡ degree_number ks.one → y ≡ degree_number ks.zero
    → stored (stored out 30 (degree_number k) (side_number side) a) 33 x y (degree_number m) ≡ numbers rs k side a ks m
unfolding numbers
flat_last out rs k side a ks m {x} {y} l e e₁ e₀ =
    let three : List ℕ = stored out 30 (degree_number k) (side_number side) a in
    let first : List ℕ = degree_number k ∷ side_number side ∷ a ∷ [] in
    let last : List ℕ = x ∷ y ∷ degree_number m ∷ [] in
    let long : length three ≡ 36 = length_stored out 30 (degree_number k) (side_number side) a ∙ l in
    sym (take_all 36 (stored three 33 x y (degree_number m)) (omega (arith, length_stored three 33 x y (degree_number m))))
    ∙ take_stored three 33 x y (degree_number m) (omega arith)
    ∙ ap (λ xs. xs ++ last) (take_stored out 30 (degree_number k) (side_number side) a (omega arith) ∙ ap (λ xs. xs ++ first) e)
    ∙ append_assoc (flat rs) first last
    ∙ ap₂ (λ u v. flat rs ++ (degree_number k ∷ side_number side ∷ a ∷ u ∷ v ∷ degree_number m ∷ [])) e₁ e₀

-- where the numbers behind the ranks stand in a report
pub behind_ranks : (rs : List Ranks) (k side : Option ℕ) (a : ℕ) (ks : Sides (Option ℕ)) (m : Option ℕ) → length rs ≡ 10 → (i : ℕ)
    → get_or (numbers rs k side a ks m) (30 + i) 0 ≡ get_or (degree_number k ∷ side_number side ∷ a ∷ degree_number ks.one ∷ degree_number ks.zero ∷ degree_number m ∷ []) i 0
unfolding numbers
behind_ranks rs k side a ks m l i =
    let long : length (flat rs) ≡ 30 = omega (arith, length_flat rs) in
    sym (ap (λ p. get_or (numbers rs k side a ks m) (p + i) 0) long) ∙ get_or-append-add (flat rs) _ i 0

-- at most 10
pub number_most : (x : Option ℕ) → ((d : ℕ) → x ≡ Some d → d ≤ 9) → degree_number x ≤ 10
number_most None l = omega arith
number_most (Some d) l = omega (arith, l d refl)

-- a number over all that there may be stands for none
pub number_stands : (x : Option ℕ) (m : ℕ) → ((d : ℕ) → x ≡ Some d → d < m) → StandsFor x m (unwrap_or x m)
number_stands None m l = ((λ e. refl, λ e. refl), λ k e. absurd (none-some k e))
number_stands (Some d) m l = (
  (λ e. absurd (omega (arith, l d refl)), λ e. absurd (none-some d (sym e))),
  λ k e. same_Some _ _ e,
)

-- a number of a report, behind the ranks, that stands for what there may be
pub stands : (j : Judgement) → length j.ranks ≡ 10 → {ns : List ℕ} → ns ≡ report_of j → (i : ℕ) (x : Option ℕ) (m : ℕ)
    → get_or (degree_number j.degree ∷ side_number j.side ∷ j.additions ∷ degree_number j.degrees.one ∷ degree_number j.degrees.zero ∷ degree_number j.mark ∷ []) i 0 ≡ unwrap_or x m
    → ((k : ℕ) → x ≡ Some k → k < m) → StandsFor x m (get_or ns (30 + i) 0)
stands j long e i x m is low = rw (e, behind_ranks j.ranks j.degree j.side j.additions j.degrees j.mark long i ∙ is) (number_stands x m low)

-- a report that states a judgement that fits is bounded
fits_bounded : (r : Report) (ranks : List Ranks) (w : Sides (List ℕ)) (m : List ℕ) → Fits (judgement_of r ranks w m) → Bounded r
fits_bounded r ranks w m f =
    (omega (arith, f.degree _ refl), omega (arith, f.mark _ refl), number_most r.one (λ d i. omega (arith, f.one d i)), number_most r.zero (λ d i. omega (arith, f.zero d i)))

-- so what Judge answers can be reported
pub reportable : {o : Outcome Judgement} {ws ws' : List ℕ} {w w' : Sides (List ℕ)} {m m' : List ℕ} {answer : Result JudgeAnswer Refusal} → JudgeContract o ws ws' w w' m m' answer
    → ((j : Judgement) → o ≡ accepted j → Fits j) → Reportable answer
reportable {w' = w'} {m' = m'} {answer = Err x} h fits = tt
reportable {w' = w'} {m' = m'} {answer = Ok a} h fits = go a.report (fits _ (sym h.answers))
  where
    go : (x : Option Report) → Fits (found x a.ranks w' m') → IfSome x Bounded
    go None f = tt
    go (Some r) f = fits_bounded r a.ranks w' m' f
