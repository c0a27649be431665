-- What Write answers and leaves, from the tests that it makes.
--   write_passed    checks of the inputs that pass show a filter
--   room_decides    where they pass, only the length of the output is left to check
--   write_refuses   a broken check, of the inputs or of the output
--   write_written   no check is broken, and the file is written to the front of the output
use mathlib.Core.Path.{◌≡◌, refl, sym, ap, ◌∙◌}
use mathlib.Core.List.{List, ◌++◌}
use Prim.Native.Nat.{ℕ}
use Rattle.std.specs.Prelude.{Ok, Err}
use native.Mathlib.Nat.{zero-add}
use lib.ListN.{length, drop}
use Rattle.refusal.specs.declared.Refusal.{Refusal}
use Rattle.refusal.specs.Outcome.{accepted, checked}
use Rattle.refusal.specs.Verdict.{verdict}
use Rattle.refusal.proofs.Verdicts.{checked_append, passed_all, verdict_refuses, verdict_passes}
use Rattle.buffer.specs.Appends.{Appends}
use Rattle.filter.specs.Filter.{Filter}
use Rattle.filter.proofs.Filters.{a_filter}
use Rattle.filter_file.specs.Write.{file_of, write_inputs, room_for, write_outcome, WriteContract}

module _ (n : ℕ) (s f : List ℕ) where
  -- checks of the inputs that pass show a filter
  pub write_passed : verdict (write_inputs s f n) ≡ Ok tt → Filter n s f
  write_passed passed = let (set, (table, (tapped, masks))) = passed_all (write_inputs s f n) passed in a_filter n s f set table tapped masks

  -- where they pass, only the length of the output is left to check
  pub room_decides : (m : ℕ) → verdict (write_inputs s f n) ≡ Ok tt
      → write_outcome s f n m ≡ checked (room_for (length (file_of n s f)) m) (accepted (file_of n s f))
  unfolding write_outcome
  room_decides m passed = checked_append (write_inputs s f n) (room_for (length (file_of n s f)) m) _ ∙ verdict_passes (write_inputs s f n) _ passed

  module _ (out : List ℕ) where
    -- a broken check
    pub write_refuses : {x : Refusal} → Err x ≡ verdict (write_inputs s f n ++ room_for (length (file_of n s f)) (length out))
        → WriteContract (write_outcome s f n (length out)) (Err x) out out
    unfolding write_outcome
    write_refuses e = rw (verdict_refuses (write_inputs s f n ++ room_for (length (file_of n s f)) (length out)) _ (sym e)) (record { answer = refl; output = refl })

    -- no check is broken, and the file is written to the front of the output
    pub write_written : {out' : List ℕ} {k : ℕ} → Ok tt ≡ verdict (write_inputs s f n ++ room_for (length (file_of n s f)) (length out))
        → Appends (file_of n s f) out out' 0 k → WriteContract (write_outcome s f n (length out)) (Ok k) out out'
    unfolding write_outcome
    write_written {k = k} e done =
        let long : k ≡ length (file_of n s f) = done.upto ∙ zero-add (length (file_of n s f)) in
        rw (verdict_passes (write_inputs s f n ++ room_for (length (file_of n s f)) (length out)) _ (sym e))
        (record { answer = ap accepted long; output = done.buffer ∙ ap (λ j. file_of n s f ++ drop j out) long })
