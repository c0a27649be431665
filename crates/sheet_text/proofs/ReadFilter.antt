-- The filter that Read finds in a file.
--   ReadAs o n s f   the outcome o of Read accepts n, and leaves the set s and the table f
--   filter_judged    Judge accepts it
--   filter_sheet_lem     its sheet is that of the file
--   read_filter      what an acceptance by Read shows
--   read_refused     what a refusal shows
--   refused_sheet    the sheet of a file that is refused
use mathlib.Core.Path.{◌≡◌, sym, ap, ◌∙◌}
use mathlib.Core.List.{List, [], ◌∷◌}
use Prim.Native.Nat.{ℕ, suc, ◌<◌}
use native.Mathlib.Omega.{arith}
use lib.ListN.{length, get_or}
use Rattle.refusal.specs.Refusal.{number_of}
use Rattle.refusal.specs.Outcome.{Outcome, refused, accepted, left_by, outcome_of}
use Rattle.refusal.specs.declared.Refusal.{Refusal}
use Rattle.refusal.proofs.Outcomes.{mapped_refused, mapped_accepted}
use Rattle.cube.specs.NumberLists.{lists}
use Rattle.cube.specs.Mask.{mask}
use Rattle.order.specs.BuiltIn.{graded}
use Rattle.std.specs.Prelude.{Result, Ok, Err}
use Rattle.filter_file.specs.File.{Contents}
use Rattle.varint.specs.Varint.{Bytes}
use Rattle.filter_file.specs.Read.{read_outcome, ReadContract}
use Rattle.immunity.specs.Judgement.{judged}
use Rattle.judge.specs.Judge.{JudgeAccepts}
use Rattle.judge.proofs.Passed.{judge_accepts}
use Rattle.filter_file.proofs.Decoded.{contents_decoded}
use Rattle.filter_file.proofs.ValidFilter.{valid_filter}
use Rattle.sheet_lines.specs.Lines.{refused_line}
use Rattle.sheet_text.specs.Sheet.{filter_sheet, sheet_of, sheet}

-- a list of bytes
bytes_at_lem : (xs : List ℕ) → ((i : ℕ) → i < length xs → get_or xs i 0 < 256) → Bytes xs
bytes_at_lem [] h = tt
bytes_at_lem (x ∷ xs) h = (h 0 (omega arith), bytes_at_lem xs (λ i l. h (suc i) (omega arith)))

-- what Read accepts, Judge accepts
read_judge : (file : List ℕ) (c : Contents) → ((i : ℕ) → i < length file → get_or file i 0 < 256) → read_outcome 512 512 file ≡ accepted c
    → let s : List ℕ = mask (lists c.set) in let f : List ℕ = mask (lists c.table) in JudgeAccepts graded c.n s f (judged graded c.n s f)
unfolding read_outcome
read_judge file c b e =
    let valid = (contents_decoded file (bytes_at_lem file b) e).1 in
    judge_accepts graded c.n (mask (lists c.set)) (mask (lists c.table)) (valid_filter valid)

-- the outcome of Read accepts n, and leaves the set s and the table f
pub record ReadAs (o : Outcome Contents) (n : ℕ) (s f : List ℕ) : Type 0 where
  pub contents : Contents
  pub is : o ≡ accepted contents
  pub n_is : n ≡ contents.n
  pub set_is : s ≡ mask (lists contents.set)
  pub table_is : f ≡ mask (lists contents.table)

-- Judge accepts it
pub filter_judged : (file : List ℕ) (n : ℕ) (s f : List ℕ) → ReadAs (read_outcome 512 512 file) n s f → ((i : ℕ) → i < length file → get_or file i 0 < 256)
    → JudgeAccepts graded n s f (judged graded n s f)
filter_judged file n s f x b = rw (x.n_is, x.set_is, x.table_is) (read_judge file x.contents b x.is)

-- its sheet is that of the file
pub filter_sheet_lem : (file : List ℕ) (n : ℕ) (s f : List ℕ) → ReadAs (read_outcome 512 512 file) n s f → filter_sheet n s f ≡ sheet file
unfolding sheet
filter_sheet_lem file n s f x = rw (x.n_is, x.set_is, x.table_is) (sym (ap sheet_of x.is))

-- what an acceptance by Read shows
pub read_filter : (o : Outcome Contents) (r : Result ℕ Refusal) (s₀ s f₀ f : List ℕ) → ReadContract o r s₀ s f₀ f → (n : ℕ) → r ≡ Ok n → ReadAs o n s f
read_filter o r s₀ s f₀ f h n e =
    let (c, is, taps) = mapped_accepted (λ c. c.n) o (sym h.answer ∙ ap outcome_of e) in
    record {
      contents = c;
      is = is;
      n_is = sym taps;
      set_is = h.set ∙ ap (λ y. left_by y s₀ (λ c. mask (lists c.set))) is;
      table_is = h.table ∙ ap (λ y. left_by y f₀ (λ c. mask (lists c.table))) is;
    }

-- what a refusal shows
pub read_refused : (o : Outcome Contents) (r : Result ℕ Refusal) (s₀ s f₀ f : List ℕ) → ReadContract o r s₀ s f₀ f → (x : Refusal) → r ≡ Err x → o ≡ refused (number_of x)
read_refused o r s₀ s f₀ f h x e = mapped_refused (λ c. c.n) o (sym h.answer ∙ ap outcome_of e)

-- the sheet of a file that is refused
pub refused_sheet : (file : List ℕ) (m k : ℕ) → read_outcome 512 512 file ≡ refused m → k ≡ m → refused_line k ≡ sheet file
unfolding sheet
refused_sheet file m k e q = ap refused_line q ∙ sym (ap sheet_of e)
