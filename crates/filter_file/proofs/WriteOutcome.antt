-- What an acceptance of Write shows, when it accepts, and when it refuses.
--   inputs_pass      the checks of a filter pass
--   write_accepted   what Write accepts is a filter; what it writes is its file, and the output is not shorter
--   write_accepts    of a filter it writes the file, where the output is not shorter
--   short_only       13 is given exactly where the output is shorter than the file of a filter
--   refused_inputs   another number is given exactly where the checks of the inputs refuse by it
use mathlib.Core.Path.{◌≡◌, refl, sym, ap, ◌∙◌}
use mathlib.Core.Logic.{◌↔◌, ◌⊎◌, ◌≢◌, inl, inr}
use mathlib.Core.List.{List, ◌++◌}
use Prim.Native.Nat.{ℕ, ◌≤◌, ◌<◌}
use native.Mathlib.Omega.{arith}
use native.Mathlib.Decide.{dec_lt}
use lib.Dec.{leb}
use lib.ListN.{length}
use borrow.Author.Tests.{eq-eqb, leb-true, le-leb, lt-leb}
use Rattle.std.specs.Prelude.{Ok, Err}
use Rattle.refusal.specs.Refusal.{number_of}
use Rattle.refusal.specs.Outcome.{refused, accepted, checked}
use Rattle.refusal.specs.declared.Refusal.{Refusal}
use Rattle.refusal.specs.Verdict.{verdict}
use Rattle.refusal.proofs.Outcomes.{not_both}
use Rattle.refusal.proofs.Verdicts.{all_append, checked_append, verdict_refuses, passed_all, all_passed, accepted_passes, refused_either, refused_among}
use Rattle.filter.specs.Filter.{Filter}
use Rattle.filter.specs.Checks.{filter_masks}
use Rattle.filter.proofs.Filters.{a_filter, passes}
use Rattle.filter_file.specs.Write.{file_of, write_inputs, room_for, write_outcome, WriteAccepts}
use Rattle.filter_file.proofs.WriteAnswers.{write_passed, room_decides}

module _ (n : ℕ) (s f : List ℕ) where
  -- the checks of a filter pass
  pub inputs_pass : Filter n s f → verdict (write_inputs s f n) ≡ Ok tt
  inputs_pass h =
      all_passed (write_inputs s f n) (eq-eqb (length s) 512 h.set_long, (eq-eqb (length f) 512 h.table_long, (h.tapped, passes n s f h)))

  -- what Write accepts is a filter; what it writes is its file, and the output is not shorter
  pub write_accepted : (m : ℕ) (file : List ℕ) → WriteAccepts n s f m file → Filter n s f × (file_of n s f ≡ file) × (length file ≤ m)
  unfolding write_outcome
  write_accepted m file e =
      let room = room_for (length (file_of n s f)) m in
      let (holds, same) = accepted_passes (write_inputs s f n ++ room) (accepted (file_of n s f)) file e in
      let (set, (table, (tapped, rest))) = passed_all (write_inputs s f n ++ room) holds in
      let (masks, (long, _)) = (all_append (filter_masks n s f) room).0 rest in
      let written : file_of n s f ≡ file = cc same in
      (a_filter n s f set table tapped masks, written, rw written at (leb-true (length (file_of n s f)) m long))

  -- of a filter it writes the file, where the output is not shorter
  pub write_accepts : (m : ℕ) → Filter n s f → length (file_of n s f) ≤ m → WriteAccepts n s f m (file_of n s f)
  write_accepts m h l = room_decides n s f m (inputs_pass h) ∙ rw (le-leb (length (file_of n s f)) m l)

  -- the checks of the inputs never refuse by 13
  other_numbers : {x : Refusal} → verdict (write_inputs s f n) ≡ Err x → number_of x ≢ 13
  other_numbers {x} e same = let low = leb-true (number_of x) 12 (refused_among (λ y. leb (number_of y) 12) (write_inputs s f n) refl e) in omega arith

  -- a refusal: a check of the inputs is broken, or they pass and the output is shorter than the file
  refused_how : (m k : ℕ) → write_outcome s f n m ≡ refused k
      → ((x : Refusal) × (verdict (write_inputs s f n) ≡ Err x) × (number_of x ≡ k)) ⊎ ((verdict (write_inputs s f n) ≡ Ok tt) × (k ≡ 13) × (m < length (file_of n s f)))
  unfolding write_outcome
  refused_how m k e =
      elim (refused_either (write_inputs s f n) _ k (sym (checked_append (write_inputs s f n) (room_for (length (file_of n s f)) m) _) ∙ e)) [
        | inl broken ↦ inl broken
        | inr (passed, rest) ↦ elim (dec_lt m (length (file_of n s f))) [
          | yes l ↦ let number : refused 13 ≡ refused k = rw (lt-leb (length (file_of n s f)) m l) at rest in inr (passed, cc number, l)
          | no g ↦ absurd (not_both (sym (rw (le-leb (length (file_of n s f)) m (omega arith)) at rest)))
        ]
      ]

  -- 13 is given exactly where the output is shorter than the file of a filter
  pub short_only : (m : ℕ) → (write_outcome s f n m ≡ refused 13) ↔ (Filter n s f × (m < length (file_of n s f)))
  short_only m = (
    λ e. elim (refused_how m 13 e) [
      | inl (x, broken, same) ↦ absurd (other_numbers broken same)
      | inr (passed, _, l) ↦ (write_passed n s f passed, l)
    ],
    λ (h, l). room_decides n s f m (inputs_pass h) ∙ rw (lt-leb (length (file_of n s f)) m l),
  )

  -- another number is given exactly where the checks of the inputs refuse by it
  pub refused_inputs : {A : Type 0} (a : A) (m k : ℕ) → k ≢ 13 → (write_outcome s f n m ≡ refused k) ↔ (checked (write_inputs s f n) (accepted a) ≡ refused k)
  unfolding write_outcome
  refused_inputs a m k other = (
    λ e. elim (refused_how m k e) [
      | inl (x, broken, same) ↦ verdict_refuses (write_inputs s f n) (accepted a) broken ∙ ap refused same
      | inr (_, same, _) ↦ absurd (other same)
    ],
    λ e. elim (refused_either (write_inputs s f n) (accepted a) k e) [
      | inl (x, broken, same) ↦
          checked_append (write_inputs s f n) (room_for (length (file_of n s f)) m) _ ∙ verdict_refuses (write_inputs s f n) _ broken ∙ ap refused same
      | inr (_, q) ↦ absurd (not_both (sym q))
    ],
  )
