-- Room in the sheet: the most bytes that each part of its text takes, as the sum of the rooms of that part's parts.
--   chosen_room           a small field for each of the 512 exponents or points
--   refused_line_room     the line for a refusal
--   first_line_room       the first line
--   rank_line_room        a rank line
--   rank_lines_room       the rank lines, of at most ten degrees
--   degree_line_room      the degree line with its witness
--   sides_line_room       the line of the sides' degrees
--   sum_line_room         a sum line
--   side_sums_room        the sum lines of a side, one for each point
--   sums_room             those of both sides
--   additions_line_room   the line of the additions
--   text_room             the whole text: the lines in their order
use Rattle.std.specs.Prelude.{ℕ, ◌+◌, ◌*◌}
use Rattle.text.specs.Room.{digits_room, field_room, small_field_room, newline_room, labelled_room}

-- a small field for each of the 512 exponents or points
abbrev pub chosen_room : ℕ
chosen_room = 512 * small_field_room

-- the word `refused` and its number
abbrev pub refused_line_room : ℕ
refused_line_room = labelled_room 7 + newline_room

-- the words `n`, ` points` and ` mark`, each with its number
abbrev pub first_line_room : ℕ
first_line_room = labelled_room 1 + labelled_room 7 + labelled_room 5 + newline_room

-- a degree and three ranks
abbrev pub rank_line_room : ℕ
rank_line_room = digits_room + 3 * field_room + newline_room

-- the degrees 0 to 9
abbrev pub rank_lines_room : ℕ
rank_lines_room = 10 * rank_line_room

-- the words `degree` and ` side`, each with its number, the word ` witness` and its exponents
abbrev pub degree_line_room : ℕ
degree_line_room = labelled_room 6 + labelled_room 5 + 8 + chosen_room + newline_room

-- the word `sides` and two degrees; ` none` takes less than a field
abbrev pub sides_line_room : ℕ
sides_line_room = 5 + 2 * field_room + newline_room

-- the words `side` and ` point`, each with its number, the word ` sum` and its points
abbrev pub sum_line_room : ℕ
sum_line_room = labelled_room 4 + labelled_room 6 + 4 + chosen_room + newline_room

-- one for each point
abbrev pub side_sums_room : ℕ
side_sums_room = 512 * sum_line_room

-- those of both sides
abbrev pub sums_room : ℕ
sums_room = 2 * side_sums_room

-- the word `additions` and its number
abbrev pub additions_line_room : ℕ
additions_line_room = labelled_room 9 + newline_room

-- the lines in their order
abbrev pub text_room : ℕ
text_room =
    first_line_room
    + rank_lines_room
    + degree_line_room
    + sides_line_room
    + sums_room
    + additions_line_room
