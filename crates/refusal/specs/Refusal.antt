-- Refusals by their numbers: docs/SPECIFICATION.md, 'Refusals'.
--   number_of r   the number of the refusal r
use Rattle.std.specs.Prelude.{ℕ}
use Rattle.refusal.specs.declared.Refusal.{Refusal}
use Rattle.refusal.specs.declared.Refusal.TheVariants.{Length, FileEnds, NumberForm, Taps, Range, Surplus, Bytes, ZeroPolynomial, Degree, Side, RanksDiffer, ShortOutput, Wiring}

-- the number of a refusal
abbrev pub number_of : Refusal → ℕ
number_of Length = 1
number_of FileEnds = 2
number_of NumberForm = 3
number_of Taps = 4
number_of Range = 5
number_of Surplus = 7
number_of Bytes = 8
number_of ZeroPolynomial = 9
number_of Degree = 10
number_of Side = 11
number_of RanksDiffer = 12
number_of ShortOutput = 13
number_of Wiring = 14
