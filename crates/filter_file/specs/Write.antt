-- Write: docs/SPECIFICATION.md, 'Write'.
--   contents_of n s f             what the file of n taps, the set s and the table f says
--   file_of n s f                 that file
--   write_inputs s f n            the checks of the set s, the table f and n
--   room_for k m                  13: an output of m bytes has room for a file of k bytes
--   write_outcome s f n m         what Write writes, lent an output of m bytes: the first refusal, or the file
--   WriteContract o r out₀ out₁   the contract of Write: the answer r and the output, at entry and at exit, are those of the outcome o
--   WriteAccepts n s f m file     Write, lent an output of m bytes, accepts n taps, the set s and the table f, and writes the file
use Rattle.std.specs.Prelude.{◌≡◌, List, [], ◌∷◌, ◌++◌, ℕ, leb, length, drop, Result}
use Rattle.refusal.specs.declared.Refusal.{Refusal}
use Rattle.refusal.specs.declared.Refusal.TheVariants.{ShortOutput}
use Rattle.refusal.specs.Outcome.{Outcome, accepted, Check, ◌otherwise◌, checked, mapped, left_by, outcome_of}
use Rattle.cube.specs.Mask.{points}
use Rattle.filter.specs.Checks.{taps_of, filter_lengths, filter_masks}
use Rattle.filter_file.specs.File.{Contents, encode}

-- n, the points of the set, and the points where the table is 1
abbrev pub contents_of : ℕ → List ℕ → List ℕ → Contents
contents_of n s f = record { n = n; set = points s; table = points f }

-- the file that says it
abbrev pub file_of : ℕ → List ℕ → List ℕ → List ℕ
file_of n s f = encode (contents_of n s f)

-- lengths, taps, the set's bytes, the table's bytes
abbrev pub write_inputs : List ℕ → List ℕ → ℕ → List Check
write_inputs s f n = filter_lengths s f ++ taps_of n ++ filter_masks n s f

-- and then that the output is not shorter than the file
abbrev pub room_for : ℕ → ℕ → List Check
room_for k m = leb k m otherwise ShortOutput ∷ []

-- the first refusal, or the file
unfoldable pub write_outcome : List ℕ → List ℕ → ℕ → ℕ → Outcome (List ℕ)
write_outcome s f n m = checked (write_inputs s f n ++ room_for (length (file_of n s f)) m) (accepted (file_of n s f))

-- the answer is the length alone; the output's first bytes are the file and the rest is as at entry, or all of it is as at entry
pub record WriteContract (o : Outcome (List ℕ)) (r : Result ℕ Refusal) (out₀ out₁ : List ℕ) : Type 0 where
  pub answer : outcome_of r ≡ mapped length o
  pub output : out₁ ≡ left_by o out₀ (λ file. file ++ drop (length file) out₀)

-- Write, lent an output of m bytes, accepts n taps, the set s and the table f, and writes the file
abbrev pub WriteAccepts : ℕ → List ℕ → List ℕ → ℕ → List ℕ → Type 0
WriteAccepts n s f m file = write_outcome s f n m ≡ accepted file
