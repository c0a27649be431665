-- The points below q that the row names are written, in at most small_field_room * q bytes from `at` on.
use Rattle.std.proofs.Common.{◌+◌, ◌*◌, ◌≤◌}
use Rattle.cube.specs.NumberLists.{below, select}
use Rattle.gf2.specs.Vector.{entry}
use Rattle.packed.specs.Packed.{unpack}
use Rattle.buffer.specs.Appends.{Appends}
use Rattle.text.specs.Room.{small_field_room}
use Rattle.text.specs.Text.{fields}
use Rattle.sheet_lines.proofs.lines.sum_fields.Given as goal

abbrev pub invariant-loop-q : goal.invariant-loop-q
invariant-loop-q l =
    (l.place ≤ l.at + small_field_room * l.q) × Appends (fields (select (entry (unpack l.row)) (below l.q))) l.initial.text l.text l.at l.place
