-- Laws of verdicts and of lists of checks.
--   All cs            each check of a list holds
--   all_append        two lists of checks that hold, and each of them
--   every p cs        each refusal of a list passes a test, as a test
--   checked_append    the outcome after two lists of checks
--   from v cs         the verdict v after the checks cs: its refusal, or that of the checks
--   from_append       the verdict after two lists of checks
--   from_same         the verdict after checks, where the one before them has another name
--   refused_stays     a refusal stays, whatever checks follow
--   passed_on         after checks that pass the verdict is that of those that follow
--   checked_verdict   the outcome after checks is that after their verdict
--   verdict_refuses   checks that refuse
--   verdict_passes    checks that pass
--   passed_all        checks that pass all hold
--   all_passed        checks that all hold pass
--   accepted_passes   an outcome that accepts after checks has passed them
--   refused_either    one that refuses after checks: a check is broken, or they pass and what follows refuses
--   refused_among     the refusal of a broken check is one of the list's
--   refused_other     so it is not by a number that none of them has
use mathlib.Core.Path.{◌≡◌, refl, sym, ap, ◌∙◌}
use mathlib.Core.Logic.{◌↔◌, ◌⊎◌, inl, inr}
use mathlib.Core.Bool.{Bool, true, false, ◌&&◌, and-eq-true_iff, false≢true, not}
use mathlib.Core.List.{List, [], ◌∷◌, ◌++◌}
use Prim.Native.Nat.{ℕ}
use Rattle.std.specs.Prelude.{Ok, Err}
use Rattle.refusal.specs.declared.Refusal.{Refusal}
use Rattle.refusal.specs.Refusal.{number_of}
use Rattle.refusal.specs.Outcome.{Outcome, refused, accepted, Check, ◌otherwise◌, checked}
use Rattle.refusal.specs.Verdict.{Verdict, verdict, outcome}
use lib.Dec.{eqb}
use borrow.Author.Tests.{not-true}
use Rattle.refusal.proofs.Outcomes.{not_both}

-- each check holds
abbrev pub All : List Check → Type 0
All [] = Unit {0}
All (t otherwise r ∷ cs) = (t ≡ true) × All cs

-- two lists hold just if each of them does
pub all_append : (cs ds : List Check) → All (cs ++ ds) ↔ (All cs × All ds)
all_append [] ds = (λ h. (tt, h), λ h. h.1)
all_append (t otherwise r ∷ cs) ds = (
  λ h. let (first, last) = (all_append cs ds).0 h.1 in ((h.0, first), last),
  λ h. (h.0.0, (all_append cs ds).1 (h.0.1, h.1)),
)

-- each refusal of a list passes a test
abbrev pub every : (Refusal → Bool) → List Check → Bool
every p [] = true
every p (t otherwise r ∷ cs) = p r && every p cs

-- the outcome after two lists of checks
pub checked_append : {A : Type 0} (cs ds : List Check) (o : Outcome A) → checked (cs ++ ds) o ≡ checked cs (checked ds o)
checked_append [] ds o = refl
checked_append (true otherwise r ∷ cs) ds o = checked_append cs ds o
checked_append (false otherwise r ∷ cs) ds o = refl

-- more checks after a verdict, as `?` makes them
abbrev pub from : Verdict → List Check → Verdict
from (Err x) cs = Err x
from (Ok u) cs = verdict cs

-- checks after checks
pub from_append : (v : Verdict) (cs ds : List Check) → from v (cs ++ ds) ≡ from (from v cs) ds
from_append (Err x) cs ds = refl
from_append (Ok u) [] ds = refl
from_append (Ok u) (true otherwise r ∷ cs) ds = from_append (Ok u) cs ds
from_append (Ok u) (false otherwise r ∷ cs) ds = refl

-- the verdict before the checks has another name
pub from_same : (cs : List Check) {u v w : Verdict} → v ≡ w → u ≡ from v cs → u ≡ from w cs
from_same cs e h = h ∙ ap (λ x. from x cs) e

-- a refusal stays
pub refused_stays : (cs ds : List Check) {x : Refusal} → Err x ≡ verdict cs → Err x ≡ verdict (cs ++ ds)
refused_stays cs ds e = from_same ds e refl ∙ sym (from_append (Ok tt) cs ds)

-- what follows checks that pass
pub passed_on : (cs ds : List Check) {v : Verdict} → Ok tt ≡ verdict cs → v ≡ verdict ds → v ≡ verdict (cs ++ ds)
passed_on cs ds e h = from_same ds e h ∙ sym (from_append (Ok tt) cs ds)

-- the outcome after checks is that after their verdict
pub checked_verdict : {A : Type 0} (cs : List Check) (o : Outcome A) → checked cs o ≡ outcome (verdict cs) o
checked_verdict [] o = refl
checked_verdict (true otherwise r ∷ cs) o = checked_verdict cs o
checked_verdict (false otherwise r ∷ cs) o = refl

-- checks that refuse
pub verdict_refuses : {A : Type 0} (cs : List Check) (o : Outcome A) {x : Refusal} → verdict cs ≡ Err x → checked cs o ≡ refused (number_of x)
verdict_refuses cs o e = checked_verdict cs o ∙ rw e

-- checks that pass
pub verdict_passes : {A : Type 0} (cs : List Check) (o : Outcome A) → verdict cs ≡ Ok tt → checked cs o ≡ o
verdict_passes cs o e = checked_verdict cs o ∙ rw e

-- checks that pass all hold
pub passed_all : (cs : List Check) → verdict cs ≡ Ok tt → All cs
passed_all [] e = tt
passed_all (true otherwise r ∷ cs) e = (refl, passed_all cs e)
passed_all (false otherwise r ∷ cs) e = cc

-- checks that all hold pass
pub all_passed : (cs : List Check) → All cs → verdict cs ≡ Ok tt
all_passed [] h = refl
all_passed (true otherwise r ∷ cs) h = all_passed cs h.1
all_passed (false otherwise r ∷ cs) h = absurd (false≢true h.0)

-- an outcome that accepts after checks has passed them
pub accepted_passes : {A : Type 0} (cs : List Check) (o : Outcome A) (a : A) → checked cs o ≡ accepted a → (verdict cs ≡ Ok tt) × (o ≡ accepted a)
accepted_passes [] o a e = (refl, e)
accepted_passes (true otherwise r ∷ cs) o a e = accepted_passes cs o a e
accepted_passes (false otherwise r ∷ cs) o a e = absurd (not_both e)

-- one that refuses after checks: a check is broken, or they pass and what follows refuses
pub refused_either : {A : Type 0} (cs : List Check) (o : Outcome A) (k : ℕ) → checked cs o ≡ refused k
    → ((x : Refusal) × (verdict cs ≡ Err x) × (number_of x ≡ k)) ⊎ ((verdict cs ≡ Ok tt) × (o ≡ refused k))
refused_either cs o k e = go (verdict cs) refl
  where
    go : (v : Verdict) → verdict cs ≡ v → ((x : Refusal) × (verdict cs ≡ Err x) × (number_of x ≡ k)) ⊎ ((verdict cs ≡ Ok tt) × (o ≡ refused k))
    go (Err x) q = let same : refused (number_of x) ≡ refused k = sym (verdict_refuses cs o q) ∙ e in inl (x, q, cc same)
    go (Ok u) q = inr (q, sym (verdict_passes cs o q) ∙ e)

-- the refusal of a broken check is one of the list's
pub refused_among : (p : Refusal → Bool) (cs : List Check) {x : Refusal} → every p cs ≡ true → verdict cs ≡ Err x → p x ≡ true
refused_among p [] h e = cc
refused_among p (true otherwise r ∷ cs) h e = refused_among p cs ((and-eq-true_iff (p r) (every p cs)).0 h).1 e
refused_among p (false otherwise r ∷ cs) {x} h e =
    let same : r ≡ x = cc in rw (← same) ((and-eq-true_iff (p r) (every p cs)).0 h).0

-- so it is not by a number that none of them has
pub refused_other : (k : ℕ) (cs : List Check) {x : Refusal} → every (λ y. not (eqb (number_of y) k)) cs ≡ true → verdict cs ≡ Err x → eqb (number_of x) k ≡ false
refused_other k cs others e = not-true _ (refused_among (λ y. not (eqb (number_of y) k)) cs others e)
