-- What is promised of Write holds.
--   back_read     what the contract of Read says of a file that is taken back
--   leaves_file   what the contract of Write says of an outcome that accepts
--   round_trips   each sentence of it
use mathlib.Core.Path.{◌≡◌, refl, sym, ap, ◌∙◌, subst}
use mathlib.Core.Logic.{◌↔◌}
use mathlib.Core.List.{List, ◌++◌}
use Prim.Native.Nat.{ℕ, ◌≤◌}
use native.Mathlib.Omega.{arith}
use lib.ListN.{length, take, drop}
use lib.Seq.{take_at, drop_at}
use Rattle.std.specs.Prelude.{Result}
use Rattle.refusal.specs.declared.Refusal.{Refusal}
use Rattle.refusal.specs.Outcome.{Outcome, accepted, mapped, left_by, outcome_of}
use Rattle.refusal.proofs.Outcomes.{mapped_refused, mapped_accepted}
use Rattle.refusal.proofs.Verdicts.{accepted_passes}
use Rattle.cube.specs.NumberLists.{lists}
use Rattle.cube.specs.Mask.{mask}
use Rattle.cube.proofs.MaskOf.{mask_points}
use Rattle.order.specs.BuiltIn.{graded}
use Rattle.varint.specs.Varint.{Bytes}
use Rattle.filter.specs.Filter.{Filter}
use Rattle.filter_file.specs.File.{Contents, contents, encode}
use Rattle.filter_file.specs.Read.{read_checks, read_outcome, ReadContract}
use Rattle.filter_file.specs.Write.{contents_of, file_of, write_outcome, WriteContract, WriteAccepts}
use Rattle.filter_file.proofs.Encoded.{contents_encoded, encoded_bytes}
use Rattle.filter_file.proofs.Decoded.{contents_decoded}
use Rattle.filter_file.proofs.Longest.{longest}
use Rattle.filter_file.proofs.ValidFilter.{valid_filter, filter_valid, valid_again}
use Rattle.filter_file.proofs.WriteOutcome.{write_accepted, write_accepts, short_only, refused_inputs}
use Rattle.immunity.specs.Judgement.{judged}
use Rattle.judge.specs.Judge.{judge_outcome}
use Rattle.judge.proofs.Passed.{judge_accepted, judge_accepts}
use Rattle.demands.specs.Write.{ReadBack, RoundTrips}
use Rattle.demands.proofs.Refusals.{write_refuses}

module _ {n : ℕ} {s f : List ℕ} where
  -- Read takes the file of a filter back to it
  file_back : Filter n s f → ReadBack (file_of n s f) n s f
  unfolding read_outcome
  file_back h =
      let valid = filter_valid h in (
        encoded_bytes (contents_of n s f) valid,
        (contents_of n s f, contents_encoded (contents_of n s f) valid, refl, mask_points n s h.set_long h.set_formed, mask_points n f h.table_long h.table_formed),
      )

  -- what it takes a file back to is a filter, and the file is that filter's
  back_file : (file : List ℕ) → ReadBack file n s f → Filter n s f × (file_of n s f ≡ file)
  unfolding read_outcome
  back_file file (bytes, (c, e, taps, set, table)) =
      let (same, valid) = contents_decoded file bytes e in
      rw (← taps, ← set, ← table) (valid_filter valid, ap encode (valid_again valid) ∙ sym same)

  -- Write writes exactly what Read takes back
  writes : (m : ℕ) (file : List ℕ) → WriteAccepts n s f m file ↔ (ReadBack file n s f × (length file ≤ m))
  writes m file = (
    λ e. let (h, same, l) = write_accepted n s f m file e in (subst (λ x. ReadBack x n s f) same (file_back h), l),
    λ (back, l). let (h, same) = back_file file back in write_accepts n s f m h (omega (arith, ap length same)) ∙ ap accepted same,
  )

  -- a file is taken back to one triple
  back_same : {n' : ℕ} {s' f' : List ℕ} (file : List ℕ) → ReadBack file n s f → ReadBack file n' s' f' → (n ≡ n') × (s ≡ s') × (f ≡ f')
  back_same file (_, (c, e, taps, set, table)) (_, (c', e', taps', set', table')) =
      let same : c ≡ c' = cc (sym e ∙ e') in (
        sym taps ∙ ap (λ (x : Contents). x.n) same ∙ taps',
        sym set ∙ ap (λ (x : Contents). mask (lists x.set)) same ∙ set',
        sym table ∙ ap (λ (x : Contents). mask (lists x.table)) same ∙ table',
      )

-- what the contract of Read says of a file that is taken back
pub back_read : {n : ℕ} {s f : List ℕ} (file : List ℕ) → ReadBack file n s f → (r : Result ℕ Refusal) (set₀ set₁ table₀ table₁ : List ℕ) → length set₀ ≡ 512 → length table₀ ≡ 512
    → ReadContract (read_outcome (length set₀) (length table₀) file) r set₀ set₁ table₀ table₁ → (outcome_of r ≡ accepted n) × (set₁ ≡ s) × (table₁ ≡ f)
back_read file (_, (c, e, taps, set, table)) r set₀ set₁ table₀ table₁ long-set long-table h =
    let reads : read_outcome (length set₀) (length table₀) file ≡ accepted c = rw (long-set, long-table) e in (
      h.answer ∙ ap (mapped (λ y. y.n)) reads ∙ ap accepted taps,
      h.set ∙ ap (λ x. left_by x set₀ (λ y. mask (lists y.set))) reads ∙ set,
      h.table ∙ ap (λ x. left_by x table₀ (λ y. mask (lists y.table))) reads ∙ table,
    )

-- a file that Read accepts is taken back to what Read leaves
read_back : (file : List ℕ) {r : Result ℕ Refusal} {n : ℕ} (set₀ set₁ table₀ table₁ : List ℕ) → Bytes file
    → ReadContract (read_outcome (length set₀) (length table₀) file) r set₀ set₁ table₀ table₁ → outcome_of r ≡ accepted n → ReadBack file n set₁ table₁
unfolding read_outcome
read_back file set₀ set₁ table₀ table₁ bytes h a =
    let (c, e, taps) = mapped_accepted (λ y. y.n) (read_outcome (length set₀) (length table₀) file) (sym h.answer ∙ a) in
    let (_, says) = accepted_passes (read_checks (length set₀) (length table₀)) (contents file) c e in
    let set : set₁ ≡ mask (lists c.set) = h.set ∙ ap (λ x. left_by x set₀ (λ y. mask (lists y.set))) e in
    let table : table₁ ≡ mask (lists c.table) = h.table ∙ ap (λ x. left_by x table₀ (λ y. mask (lists y.table))) e in
    (bytes, (c, says, taps, sym set, sym table))

module _ {w : Result ℕ Refusal} {out₀ out₁ : List ℕ} where
  -- what the contract of Write says of an outcome that accepts
  pub leaves_file : {o : Outcome (List ℕ)} {file : List ℕ} → WriteContract o w out₀ out₁ → o ≡ accepted file
      → (outcome_of w ≡ accepted (length file)) × (out₁ ≡ file ++ drop (length file) out₀)
  leaves_file h e = (h.answer ∙ ap (mapped length) e, h.output ∙ ap (λ x. left_by x out₀ (λ y. y ++ drop (length y) out₀)) e)

-- each sentence of it
pub round_trips : RoundTrips
unfolding judge_outcome
round_trips = record {
  written_read = λ n s f out₀ out₁ w k h a.
      let (file, e, long) = mapped_accepted length (write_outcome s f n (length out₀)) (sym h.answer ∙ a) in
      let (_, leaves) = leaves_file h e in
      let begins : file ≡ take k out₁ = sym (ap (take k) leaves ∙ take_at file (drop (length file) out₀) k long) in
      back_read (take k out₁) (subst (λ x. ReadBack x n s f) begins ((writes (length out₀) file).0 e).0);
  read_written = λ file r n set₀ set₁ table₀ table₁ bytes h a w out₀ out₁ l x.
      leaves_file x ((writes (length out₀) file).1 (read_back file set₀ set₁ table₀ table₁ bytes h a, l));
  writes = λ n s f. writes;
  different_files = λ n n' s s' f f' m m' file e e'. back_same file ((writes m file).0 e).0 ((writes m' file).0 e').0;
  one_file = λ n s f (m, file, e). (
    file,
    ((writes m file).0 e).0,
    λ other back. sym (back_file other back).1 ∙ (write_accepted n s f m file e).1,
  );
  short = λ n s f m. (
    λ e. let (h, l) = (short_only n s f m).0 e in (file_of n s f, file_back h, l),
    λ (file, back, l). let (h, same) = back_file file back in (short_only n s f m).1 (h, omega (arith, ap length same)),
  );
  enough = λ n s f m (m', file, e) l. let (h, _, _) = write_accepted n s f m' file e in
      (file_of n s f, write_accepts n s f m h (omega (arith, longest (contents_of n s f) (filter_valid h))));
  accepted_leaves = λ o w out₀ out₁ file h e. let (answer, leaves) = leaves_file h e in (
    answer,
    ap (take (length file)) leaves ∙ take_at file (drop (length file) out₀) (length file) refl,
    ap (drop (length file)) leaves ∙ drop_at file (drop (length file) out₀) (length file) refl,
  );
  refuses = write_refuses;
  refusal_answered = λ o w out₀ out₁ k h. (λ a. mapped_refused length o (sym h.answer ∙ a), λ e. h.answer ∙ ap (mapped length) e);
  accepts_as_judge = λ n s f. (
    λ (m, file, e). let (h, _, _) = write_accepted n s f m file e in (judged graded n s f, judge_accepts graded n s f h),
    λ (j, e). let (h, _) = judge_accepted graded n s f j e in (length (file_of n s f), file_of n s f, write_accepts n s f (length (file_of n s f)) h (omega arith)),
  );
  refuses_as_judge = λ n s f m k other. refused_inputs n s f (judged graded n s f) m k other;
}
