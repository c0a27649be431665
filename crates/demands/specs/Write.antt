-- What is promised of Write, sentence by sentence, about the definitions that the contracts equate with what the code answers and
-- leaves: docs/SPECIFICATION.md, 'Write'.
--   ReadBack file n s f   the file is bytes that Read, lent buffers of the right lengths, takes back to n taps, the set s and the table f
--   Writable n s f        the triple of n taps, the set s and the table f is accepted: Write accepts it, lent an output that is long enough
--   write_rules s f n m   the rules of Write, lent the set s, the table f and an output of m bytes, in the order of checking
--   RoundTrips            what is promised of Write: both round trips with Read, one file for each triple, the answer, the output and the refusals
use Rattle.std.specs.Prelude.{◌≡◌, ◌↔◌, ◌≢◌, List, [], ◌∷◌, ◌++◌, ℕ, ◌≤◌, ◌<◌, length, take, drop, Result}
use Rattle.refusal.specs.declared.Refusal.{Refusal}
use Rattle.cube.specs.NumberLists.{lists}
use Rattle.cube.specs.Cube.{Taps}
use Rattle.cube.specs.Mask.{WellFormed, mask}
use Rattle.order.specs.BuiltIn.{graded}
use Rattle.refusal.specs.Rule.{Rule, ◌unless◌, FirstBroken}
use Rattle.refusal.specs.Outcome.{Outcome, refused, accepted, outcome_of}
use Rattle.varint.specs.Varint.{Bytes}
use Rattle.filter_file.specs.File.{Contents}
use Rattle.filter_file.specs.Read.{read_outcome, ReadContract, reading}
use Rattle.filter_file.specs.Write.{file_of, write_outcome, WriteContract, WriteAccepts}
use Rattle.immunity.specs.Judgement.{Judgement}
use Rattle.judge.specs.Judge.{judge_outcome, JudgeAccepts}

-- the file is bytes, and Read answers n and leaves the set s and the table f
abbrev pub ReadBack : List ℕ → ℕ → List ℕ → List ℕ → Type 0
ReadBack file n s f =
    Bytes file × ((c : Contents) × (reading file ≡ accepted c) × (c.n ≡ n) × (mask (lists c.set) ≡ s) × (mask (lists c.table) ≡ f))

-- lent an output of some length, Write accepts the triple and writes a file
abbrev pub Writable : ℕ → List ℕ → List ℕ → Type 0
Writable n s f = (m : ℕ) × (file : List ℕ) × WriteAccepts n s f m file

-- 1: set or table; 4; 8 for the set, then the table; 13: the output is shorter than the file
abbrev pub write_rules : List ℕ → List ℕ → ℕ → ℕ → List Rule
write_rules s f n m =
    1 unless (length s ≡ 512)
    ∷ 1 unless (length f ≡ 512)
    ∷ 4 unless Taps n
    ∷ 8 unless WellFormed n s
    ∷ 8 unless WellFormed n f
    ∷ 13 unless (length (file_of n s f) ≤ m)
    ∷ []

-- what is promised of Write
pub record RoundTrips : Type 0 where
  -- what Write leaves, the first k bytes where it answers k, Read, lent buffers of the right lengths, reads as the same n, and leaves the same 512
  -- bytes of set and of table, whatever its buffers held
  pub written_read : (n : ℕ) (s f out₀ out₁ : List ℕ) (w : Result ℕ Refusal) (k : ℕ)
      → WriteContract (write_outcome s f n (length out₀)) w out₀ out₁ → outcome_of w ≡ accepted k
      → (r : Result ℕ Refusal) (set₀ set₁ table₀ table₁ : List ℕ) → length set₀ ≡ 512 → length table₀ ≡ 512
      → ReadContract (read_outcome (length set₀) (length table₀) (take k out₁)) r set₀ set₁ table₀ table₁
      → (outcome_of r ≡ accepted n) × (set₁ ≡ s) × (table₁ ≡ f)
  -- a file that Read accepts, written again from what Read left, is the same bytes and the same length, in every output that is long enough
  pub read_written : (file : List ℕ) (r : Result ℕ Refusal) (n : ℕ) (set₀ set₁ table₀ table₁ : List ℕ) → Bytes file
      → ReadContract (read_outcome (length set₀) (length table₀) file) r set₀ set₁ table₀ table₁ → outcome_of r ≡ accepted n
      → (w : Result ℕ Refusal) (out₀ out₁ : List ℕ) → length file ≤ length out₀ → WriteContract (write_outcome set₁ table₁ n (length out₀)) w out₀ out₁
      → (outcome_of w ≡ accepted (length file)) × (out₁ ≡ file ++ drop (length file) out₀)
  -- Write accepts and writes a file exactly when Read takes that file back to the same n, set and table, and the output is not shorter
  pub writes : (n : ℕ) (s f : List ℕ) (m : ℕ) (file : List ℕ) → WriteAccepts n s f m file ↔ (ReadBack file n s f × (length file ≤ m))
  -- two different accepted triples have different files
  pub different_files : (n n' : ℕ) (s s' f f' : List ℕ) (m m' : ℕ) (file : List ℕ) → WriteAccepts n s f m file → WriteAccepts n' s' f' m' file
      → (n ≡ n') × (s ≡ s') × (f ≡ f')
  -- each accepted triple has one file that Read takes back to it
  pub one_file : (n : ℕ) (s f : List ℕ) → Writable n s f → (file : List ℕ) × ReadBack file n s f × ((other : List ℕ) → ReadBack other n s f → other ≡ file)
  -- 13 is given exactly when the output is shorter than the file, which is what Read takes back to the triple
  pub short : (n : ℕ) (s f : List ℕ) (m : ℕ) → (write_outcome s f n m ≡ refused 13) ↔ ((file : List ℕ) × ReadBack file n s f × (m < length file))
  -- 2,053 bytes are enough for every accepted triple
  pub enough : (n : ℕ) (s f : List ℕ) (m : ℕ) → Writable n s f → 2053 ≤ m → (file : List ℕ) × WriteAccepts n s f m file
  -- an acceptance answers the length; the output's first bytes are the file, and the rest is as at entry
  pub accepted_leaves : (o : Outcome (List ℕ)) (w : Result ℕ Refusal) (out₀ out₁ file : List ℕ) → WriteContract o w out₀ out₁ → o ≡ accepted file
      → (outcome_of w ≡ accepted (length file)) × (take (length file) out₁ ≡ file) × (drop (length file) out₁ ≡ drop (length file) out₀)
  -- a refusal is by the number of the first rule that does not hold
  pub refuses : (n : ℕ) (s f : List ℕ) (m k : ℕ) → (write_outcome s f n m ≡ refused k) ↔ FirstBroken (write_rules s f n m) k
  -- an answer is a refusal exactly when the outcome is, by the same number
  pub refusal_answered : (o : Outcome (List ℕ)) (w : Result ℕ Refusal) (out₀ out₁ : List ℕ) (k : ℕ) → WriteContract o w out₀ out₁ → (outcome_of w ≡ refused k) ↔ (o ≡ refused k)
  -- Write checks set, table and n as Judge does, lent a workspace, witness buffers and a mask of kept points of the right lengths: what one accepts, the other accepts,
  pub accepts_as_judge : (n : ℕ) (s f : List ℕ) → Writable n s f ↔ ((j : Judgement) × JudgeAccepts graded n s f j)
  -- and what one refuses, save by 13, the other refuses by the same number, whatever the length of the output
  pub refuses_as_judge : (n : ℕ) (s f : List ℕ) (m k : ℕ) → k ≢ 13 → (write_outcome s f n m ≡ refused k) ↔ (judge_outcome graded s f n 8192 512 512 512 ≡ refused k)
