-- Demand 1 holds.
--   demand1   every sentence of it
use mathlib.Core.Logic.{◌≢◌}
use mathlib.Core.Path.{◌≡◌, refl, sym, ap, ◌∙◌}
use mathlib.Core.Bool.{Bool, true, false}
use mathlib.Core.List.{List, [], ◌++◌}
use Prim.Native.Nat.{ℕ, ◌≤◌}
use native.Mathlib.Omega.{arith}
use lib.Dec.{eqb}
use lib.ListN.{length, drop}
use borrow.Author.Tests.{eqb-true, eq-eqb, ne_eqb}
use Rattle.refusal.specs.Verdict.{Verdict}
use Rattle.refusal.specs.Outcome.{Outcome, refused, accepted, mapped, left, left_by}
use Rattle.refusal.proofs.Outcomes.{not_both, number_not_6, mapped_refused}
use Rattle.cube.specs.NumberLists.{lists}
use Rattle.cube.specs.Cube.{size}
use Rattle.cube.specs.Mask.{mask}
use Rattle.varint.specs.Varint.{Bytes}
use Rattle.order.specs.BuiltIn.{graded}
use Rattle.packed.specs.Packed.{zeros}
use Rattle.polynomial.specs.Convert.{converted, convert_leaves}
use Rattle.point_list.proofs.ListMasks.{points_listed}
use Rattle.filter_file.specs.File.{Contents, contents, encode, Valid}
use Rattle.filter_file.specs.Read.{read_outcome}
use Rattle.filter_file.proofs.Encoded.{contents_encoded}
use Rattle.filter_file.proofs.Decoded.{contents_decoded}
use Rattle.filter_file.proofs.Continued.{refusal_stands}
use Rattle.filter_file.proofs.Faults.{refused_fault}
use Rattle.filter_file.proofs.ValidFilter.{size_small, valid_filter}
use Rattle.immunity.specs.Judgement.{judged}
use Rattle.judge.proofs.Passed.{judge_accepts}
use Rattle.certify.specs.Certify.{cleared_unless, CertifyContract}
use Rattle.demands.specs.Demands.{Demand1}

-- what is no file of anything that obeys the rules is refused
refuses : (s : List ℕ) → Bytes s → ((c : Contents) → Valid c → s ≡ encode c → ⊥) → (k : ℕ) × (contents s ≡ refused k) × (2 ≤ k) × (k ≤ 7) × (k ≢ 6)
refuses s h none = go (contents s) refl
  where
    go : (o : Outcome Contents) → contents s ≡ o → (k : ℕ) × (contents s ≡ refused k) × (2 ≤ k) × (k ≤ 7) × (k ≢ 6)
    go (refused k) e = let x = refusal_stands s [] e in (k, e, x.low, x.high, (λ q. let (r, is) = x.named in number_not_6 r (sym is ∙ q)))
    go (accepted c) e = let (same, valid) = contents_decoded s h e in absurd (none c valid same)

-- buffers of which one is not 512 long are refused by 1, others never
lengths_to : (k l : ℕ) (s : List ℕ) → read_outcome k l s ≡ refused 1 → (k ≡ 512) × (l ≡ 512) → ⊥
unfolding read_outcome
lengths_to k l s e (p, q) = omega (arith, (refusal_stands s [] (rw (p, q) at e)).low)

lengths_from : (k l : ℕ) (s : List ℕ) → ((k ≡ 512) × (l ≡ 512) → ⊥) → read_outcome k l s ≡ refused 1
unfolding read_outcome
lengths_from k l s h = go (eqb k 512) refl (eqb l 512) refl
  where
    go : (a : Bool) → eqb k 512 ≡ a → (b : Bool) → eqb l 512 ≡ b → read_outcome k l s ≡ refused 1
    go true p true q = absurd (h (eqb-true k 512 p, eqb-true l 512 q))
    go true p false q = rw (p, q)
    go false p b q = rw p

-- after 12 the workspace is zero, after another refusal it is as it was
cleared : (k : ℕ) (ws : List ℕ) → (k ≢ 12 → cleared_unless (refused k) ws ≡ ws) × (k ≡ 12 → cleared_unless (refused k) ws ≡ zeros (length ws))
cleared k ws = (λ h. rw (ne_eqb k 12 h), λ e. rw (eq-eqb k 12 e))

-- what Certify leaves after a refusal
certify_keeps : (o : Outcome (List ℕ)) (ws ws' c c' : List ℕ) (r : Verdict) (k : ℕ) → CertifyContract o ws ws' c c' r → o ≡ refused k
    → (c' ≡ c) × (k ≢ 12 → ws' ≡ ws) × (k ≡ 12 → ws' ≡ zeros (length ws))
certify_keeps o ws ws' c c' r k h e =
    let left : ws' ≡ cleared_unless (refused k) ws = h.leaves ∙ ap (λ y. cleared_unless y ws) e in (
      h.leaves_certificate ∙ ap (λ y. left_by y c (λ x. x)) e,
      λ g. left ∙ (cleared k ws).0 g,
      λ g. left ∙ (cleared k ws).1 g,
    )

-- every sentence of demand 1
pub demand1 : Demand1
unfolding read_outcome convert_leaves
demand1 = record {
  valid_read = contents_encoded;
  read_in_full = λ s c h e. contents_decoded s h e;
  garbage_refused = λ s h. (λ r c v same. not_both (sym r.1 ∙ ap contents same ∙ contents_encoded c v), refuses s h);
  first_number = refused_fault;
  wrong_lengths = λ k l s. (lengths_to k l s, lengths_from k l s);
  set_points = λ s c h e. let (_, v) = contents_decoded s h e in points_listed (size c.n) c.set (size_small v) v.set;
  table_points = λ s c h e. let (_, v) = contents_decoded s h e in points_listed (size c.n) c.table (size_small v) v.table;
  read_judged = λ s c h e. let (_, v) = contents_decoded s h e in
      (judged graded c.n (mask (lists c.set)) (mask (lists c.table)), judge_accepts graded _ _ _ (valid_filter v));
  read_answers = λ o r s s' f f' k h. (λ e. mapped_refused (λ (c : Contents). c.n) o (sym h.answer ∙ e), λ e. h.answer ∙ ap (mapped (λ (c : Contents). c.n)) e);
  read_keeps = λ o r s s' f f' k h e. (h.set ∙ ap (λ x. left_by x s (λ c. mask (lists c.set))) e, h.table ∙ ap (λ x. left_by x f (λ c. mask (lists c.table))) e);
  write_keeps = λ o r out out' k h e. h.output ∙ ap (λ x. left_by x out (λ file. file ++ drop (length file) out)) e;
  convert_keeps = λ n b b' r k h e. h.leaves ∙ ap (λ x. left x b (converted n b)) e;
  rank_keeps = λ o ws ws' m m' r k h e. (h.leaves ∙ ap (λ x. left x ws (zeros (length ws))) e, h.leaves_kept ∙ ap (λ x. left_by x m (λ y. y.kept)) e);
  judge_keeps = λ o ws ws' w w' m m' r k h e. (
    h.leaves ∙ ap (λ x. left x ws (zeros (length ws))) e,
    h.leaves_witnesses ∙ ap (λ x. left_by x w (λ j. j.witnesses)) e,
    h.leaves_kept ∙ ap (λ x. left_by x m (λ j. j.kept)) e,
  );
  rearrange_keeps = λ o s s' f f' r k h e. (h.leaves_set ∙ ap (λ x. left_by x s (λ y. y.set)) e, h.leaves_table ∙ ap (λ x. left_by x f (λ y. y.table)) e);
  certify_keeps = certify_keeps;
}
