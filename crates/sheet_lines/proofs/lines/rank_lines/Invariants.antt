-- The lines of the degrees below d are written, in at most rank_line_room * d bytes from `at` on.
use Rattle.std.proofs.Common.{ℕ, ◌+◌, ◌*◌, ◌≤◌, List, get_or}
use Rattle.cube.specs.NumberLists.{below}
use Rattle.immunity.specs.declared.Ranks.{Ranks}
use Rattle.immunity.specs.Ranks.{no_ranks}
use Rattle.buffer.specs.Appends.{Appends}
use Rattle.text.specs.Text.{joined}
use Rattle.sheet_lines.specs.Room.{rank_line_room}
use Rattle.sheet_lines.specs.Lines.{rank_line}
use Rattle.sheet_lines.proofs.lines.rank_lines.Given as goal

-- the line of a degree
abbrev pub line_of : List Ranks → ℕ → List ℕ
line_of ranks d = rank_line d (get_or ranks d no_ranks)

abbrev pub invariant-loop-d : goal.invariant-loop-d
invariant-loop-d l = (l.place ≤ l.at + rank_line_room * l.d) × Appends (joined (line_of l.fn.ranks) (below l.d)) l.initial.text l.text l.at l.place
