-- Room in a text: the most bytes that each part of it takes.
--   digits_room           the digits of a number of 64 bits
--   field_room            a space and such digits
--   small_digits_room     the digits of a number below 1,000
--   small_field_room      a space and such digits
--   newline_room          the end of a line
--   labelled_room k       a word of k bytes, and a field
use Rattle.std.specs.Prelude.{ℕ, ◌+◌}

-- the digits of a number of 64 bits
abbrev pub digits_room : ℕ
digits_room = 20

-- a space and such digits
abbrev pub field_room : ℕ
field_room = 1 + digits_room

-- the digits of a number below 1,000
abbrev pub small_digits_room : ℕ
small_digits_room = 3

-- a space and such digits
abbrev pub small_field_room : ℕ
small_field_room = 1 + small_digits_room

-- the end of a line
abbrev pub newline_room : ℕ
newline_room = 1

-- a word of k bytes, and a field
abbrev pub labelled_room : ℕ → ℕ
labelled_room k = k + field_room
