-- The checks that operations share, as lists that compose by `++`.
--   length_is k m            1: a lent buffer of k elements should have m
--   taps_of n                4: n is from 1 to 9
--   mask_of n b              8: the mask b obeys the 0/1/0 rule of n taps
--   degree_up_to d n         10: the degree d is at most n
--   side_up_to_1 side        11: the side is at most 1
--   filter_lengths s f       1: of a set and of a table
--   filter_masks n s f       what follows the taps: 8 of the set, 8 of the table
--   at_degree n s f side d   what follows the taps where a side and a degree are asked for: 8 of the set, 8 of the table, 10, 11
use Rattle.std.specs.Prelude.{List, [], ◌∷◌, ◌++◌, ℕ, eqb, leb, length}
use Rattle.refusal.specs.Outcome.{Check, ◌otherwise◌}
use Rattle.refusal.specs.declared.Refusal.TheVariants.{Length, Taps, Bytes, Degree, Side}
use Rattle.cube.specs.Cube.{taps}
use Rattle.cube.specs.Mask.{well_formed}

-- a length
abbrev pub length_is : ℕ → ℕ → List Check
length_is k m = eqb k m otherwise Length ∷ []

-- the number of taps
abbrev pub taps_of : ℕ → List Check
taps_of n = taps n otherwise Taps ∷ []

-- the bytes of a mask
abbrev pub mask_of : ℕ → List ℕ → List Check
mask_of n b = well_formed n b otherwise Bytes ∷ []

-- a degree
abbrev pub degree_up_to : ℕ → ℕ → List Check
degree_up_to d n = leb d n otherwise Degree ∷ []

-- a side
abbrev pub side_up_to_1 : ℕ → List Check
side_up_to_1 side = leb side 1 otherwise Side ∷ []

-- the lengths of a set and of a table
abbrev pub filter_lengths : List ℕ → List ℕ → List Check
filter_lengths s f = length_is (length s) 512 ++ length_is (length f) 512

-- what is checked of a set and a table after the taps
abbrev pub filter_masks : ℕ → List ℕ → List ℕ → List Check
filter_masks n s f = mask_of n s ++ mask_of n f

-- what is checked after the taps where a side and a degree are asked for
abbrev pub at_degree : ℕ → List ℕ → List ℕ → ℕ → ℕ → List Check
at_degree n s f side d = filter_masks n s f ++ degree_up_to d n ++ side_up_to_1 side
