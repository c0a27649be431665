-- What Rearrange answers and leaves, from the tests that it makes.
--   rearrange_passed     checks that pass show a filter and a wiring
--   rearrange_refuses    a broken check
--   rearrange_accepts    no check is broken, and both masks are rearranged
--   rearrange_accepted   what is accepted is a filter with a wiring, and is rearranged as the definition says
--   accepts_wiring       each filter is accepted with each wiring
use mathlib.Core.Path.{◌≡◌, refl}
use mathlib.Core.List.{List}
use Prim.Native.Nat.{ℕ}
use Rattle.std.specs.Prelude.{Ok, Err}
use lib.ListN.{length}
use borrow.Author.Tests.{eq-eqb}
use Rattle.refusal.specs.Refusal.{number_of}
use Rattle.refusal.specs.Outcome.{refused, accepted}
use Rattle.refusal.specs.declared.Refusal.{Refusal}
use Rattle.refusal.specs.Verdict.{verdict}
use Rattle.refusal.proofs.Outcomes.{accepted_value}
use Rattle.refusal.proofs.Verdicts.{passed_all, all_passed, verdict_refuses, verdict_passes, accepted_passes}
use Rattle.filter.specs.Filter.{Filter}
use Rattle.filter.proofs.Filters.{a_filter}
use Rattle.wiring.specs.Wiring.{Wiring, rewired}
use Rattle.rearrange.specs.Rearrange.{Rearranged, rearranged, rearrange_checks, rearrange_outcome, RearrangeContract, RearrangeAccepts}
use Rattle.wiring.proofs.Tested.{wiring_tested}

module _ (n : ℕ) (s f ts : List ℕ) where
  -- checks that pass show a filter and a wiring
  pub rearrange_passed : verdict (rearrange_checks s f n ts) ≡ Ok tt → Filter n s f × Wiring n ts
  rearrange_passed passed =
      let (set, (table, (tapped, (set_formed, (table_formed, (named, _)))))) = passed_all (rearrange_checks s f n ts) passed in
      (a_filter n s f set table tapped (set_formed, (table_formed, tt)), (wiring_tested n ts).0 named)

  -- a broken check
  pub rearrange_refuses : {x : Refusal} → verdict (rearrange_checks s f n ts) ≡ Err x → RearrangeContract (rearrange_outcome s f n ts) s s f f (Err x)
  unfolding rearrange_outcome
  rearrange_refuses {x} e =
      let broken : rearrange_outcome s f n ts ≡ refused (number_of x) = verdict_refuses (rearrange_checks s f n ts) (accepted (rearranged n ts s f)) e in
      rw broken (record { answers = refl; leaves_set = refl; leaves_table = refl })

  -- no check is broken, and both masks are rearranged
  pub rearrange_accepts : verdict (rearrange_checks s f n ts) ≡ Ok tt → {s' f' : List ℕ} → s' ≡ rewired n ts s → f' ≡ rewired n ts f
      → RearrangeContract (rearrange_outcome s f n ts) s s' f f' (Ok tt)
  unfolding rearrange_outcome
  rearrange_accepts passed {s'} {f'} e g =
      let accepts : rearrange_outcome s f n ts ≡ accepted (rearranged n ts s f) = verdict_passes (rearrange_checks s f n ts) (accepted (rearranged n ts s f)) passed in
      rw (accepts, e, g) (record { answers = refl; leaves_set = refl; leaves_table = refl })

  -- what is accepted is a filter with a wiring, and is rearranged as the definition says
  pub rearrange_accepted : (x : Rearranged) → RearrangeAccepts n s f ts x → Filter n s f × Wiring n ts × (rearranged n ts s f ≡ x)
  unfolding rearrange_outcome
  rearrange_accepted x e =
      let (holds, same) = accepted_passes (rearrange_checks s f n ts) (accepted (rearranged n ts s f)) x e in
      let (filter, wiring) = rearrange_passed holds in
      (filter, wiring, accepted_value same)

  -- each filter is accepted with each wiring
  pub accepts_wiring : Filter n s f → Wiring n ts → RearrangeAccepts n s f ts (rearranged n ts s f)
  unfolding rearrange_outcome
  accepts_wiring h w =
      verdict_passes (rearrange_checks s f n ts) (accepted (rearranged n ts s f)) (all_passed (rearrange_checks s f n ts)
      (eq-eqb (length s) 512 h.set_long, (eq-eqb (length f) 512 h.table_long, (h.tapped, (h.set_formed, (h.table_formed, ((wiring_tested n ts).1 w, tt)))))))
