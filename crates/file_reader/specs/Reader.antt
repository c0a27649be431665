-- A reader of a file, and what a draw from it answers: docs/SPECIFICATION.md, 'Filter file'.
--   left r                       the bytes of the file that the reader r has left
--   drawn_of r v                 what the answer v of a draw says, where the reader is r after it
--   marked_of r b v              the same of a list whose points are set in the bytes b
--   DrawsPoint m prev least s o  the outcome o draws the point below m that the bytes s begin with, by its difference from prev
use Rattle.std.specs.Prelude.{◌≡◌, List, ℕ, Result, Ok, Err, drop}
use Rattle.refusal.specs.declared.Refusal.{Refusal}
use Rattle.refusal.specs.Refusal.{number_of}
use Rattle.refusal.specs.Outcome.{Outcome, refused, accepted}
use Rattle.varint.specs.Drawn.{Drawn, ◌leaving◌, draw}
use Rattle.varint.specs.Varint.{varint}
use Rattle.point_list.specs.PointList.{before, point_by}
use Rattle.file_reader.specs.declared.reader.Reader.{Reader}

-- the bytes from its place on
abbrev pub left : Reader → List ℕ
left r = drop r.at r.src.now

-- a value before the bytes that are left, or a refusal
abbrev pub drawn_of : Reader → Result ℕ Refusal → Outcome (Drawn ℕ)
drawn_of r (Ok v) = accepted (v leaving left r)
drawn_of r (Err x) = refused (number_of x)

-- the marked bytes before the bytes that are left, or a refusal
abbrev pub marked_of : Reader → List ℕ → Result (Unit {0}) Refusal → Outcome (Drawn (List ℕ))
marked_of r b (Ok u) = accepted (b leaving left r)
marked_of r b (Err x) = refused (number_of x)

-- whatever points follow it, they are drawn after it
unfoldable pub DrawsPoint : ℕ → ℕ → ℕ → List ℕ → Outcome (Drawn ℕ) → Type 0
DrawsPoint m prev least s o =
    (f : ℕ → List ℕ → Outcome (Drawn (List ℕ))) → point_by m prev least (varint s) f ≡ draw o (λ p rest. before p (f p rest))
