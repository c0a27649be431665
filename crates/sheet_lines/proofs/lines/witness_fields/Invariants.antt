-- The exponents chosen among the first i of the graded order are written, in at most small_field_room * i bytes from `at` on.
use Rattle.std.proofs.Common.{◌+◌, ◌*◌, ◌≤◌, take}
use Rattle.cube.specs.NumberLists.{select}
use Rattle.cube.specs.Mask.{member}
use Rattle.order.specs.BuiltIn.{graded}
use Rattle.buffer.specs.Appends.{Appends}
use Rattle.text.specs.Room.{small_field_room}
use Rattle.text.specs.Text.{fields}
use Rattle.sheet_lines.proofs.lines.witness_fields.Given as goal

abbrev pub invariant-loop-i : goal.invariant-loop-i
invariant-loop-i l =
    (l.place ≤ l.at + small_field_room * l.i) × Appends (fields (select (member l.witness) (take l.i graded))) l.initial.text l.text l.at l.place
