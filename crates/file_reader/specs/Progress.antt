-- What one reader draws from a file, number by number: docs/SPECIFICATION.md, 'Filter file'.
--   taps_of s         n, the number that the bytes s begin with: refused by 2, 3 or 4
--   numbers b c s     n and the two lists of the file s: n, and the bytes b and c marked at the points of S and at those where f is 1
--   outcome_of s r    what the code's answer r says of the bytes s of a file: n, and the bytes that remain
--   beside b o        each value that the outcome o draws, beside the bytes b
use Rattle.std.specs.Prelude.{List, ℕ, Result, Ok, Err, drop}
use Rattle.refusal.specs.declared.Refusal.{Refusal}
use Rattle.refusal.specs.declared.Refusal.TheVariants.{Taps}
use Rattle.refusal.specs.Refusal.{number_of}
use Rattle.refusal.specs.Outcome.{Outcome, refused, accepted, ◌otherwise◌, after}
use Rattle.cube.specs.Cube.{taps, size}
use Rattle.varint.specs.Drawn.{Drawn, ◌leaving◌, draw}
use Rattle.varint.specs.Varint.{varint}
use Rattle.point_list.specs.PointList.{point_list, mark_drawn}
use Rattle.file_reader.specs.declared.reader.Progress.{Progress}

-- n, from 1 to 9
unfoldable pub taps_of : List ℕ → Outcome (Drawn ℕ)
taps_of s = draw (varint s) (λ n rest. after (taps n otherwise Taps) (accepted (n leaving rest)))

-- number by number, each completely before the next
unfoldable pub numbers : List ℕ → List ℕ → List ℕ → Outcome (Drawn ((ℕ × List ℕ) × List ℕ))
numbers b c s =
    draw (taps_of s) (λ n s₁.
    draw (mark_drawn b (point_list (size n) s₁)) (λ set s₂.
    draw (mark_drawn c (point_list (size n) s₂)) (λ table s₃. accepted (((n, set), table) leaving s₃))))

-- what the code's answer says: the place behind the numbers stands for the bytes from there on
abbrev pub outcome_of : List ℕ → Result Progress Refusal → Outcome (Drawn ℕ)
outcome_of s (Ok p) = accepted (p.n leaving drop p.next s)
outcome_of s (Err x) = refused (number_of x)

-- each value that is drawn, beside bytes
abbrev pub beside : {A : Type 0} → List ℕ → Outcome (Drawn A) → Outcome (Drawn (A × List ℕ))
beside b (refused k) = refused k
beside b (accepted (v leaving rest)) = accepted ((v, b) leaving rest)
