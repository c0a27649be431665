-- The lines of the points below a in the set and outside the part are written, in at most sum_line_room * a bytes from `at` on.
use Rattle.std.proofs.Common.{ℕ, ◌+◌, ◌*◌, ◌≤◌, List}
use Rattle.cube.specs.NumberLists.{below, select}
use Rattle.immunity.specs.Certificate.{bit_of}
use Rattle.buffer.specs.Appends.{Appends}
use Rattle.text.specs.Text.{joined}
use Rattle.sheet_lines.specs.Room.{sum_line_room}
use Rattle.sheet_lines.specs.Lines.{sum_line}
use Rattle.sheet_lines.proofs.OutsideTo.{outside_to}
use Rattle.sheet_lines.proofs.lines.sum_lines.Given as goal

-- the line of a point
abbrev pub line_of : ℕ → List ℕ → ℕ → List ℕ
line_of side certificate a = sum_line side a (select (bit_of certificate a) (below 512))

abbrev pub invariant-loop-a : goal.invariant-loop-a
invariant-loop-a l =
    (l.place ≤ l.at + sum_line_room * l.a)
    × Appends (joined (line_of l.side l.fn.certificate) (outside_to l.side l.set l.table l.a)) l.initial.text l.text l.at l.place
