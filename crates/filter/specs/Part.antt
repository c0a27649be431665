-- The parts of a set: docs/SPECIFICATION.md, 'Words'.
--   part side s f    the points of the set s where the table f is `side`, rising: part 1 and part 0
--   both_parts s f   the two parts, one for each side
use Rattle.std.specs.Prelude.{List, ℕ, eqb, get_or}
use Rattle.cube.specs.NumberLists.{select}
use Rattle.cube.specs.Mask.{points}
use Rattle.filter.specs.Sides.{Sides, both_sides}

-- the points of the set where the table is `side`
abbrev pub part : ℕ → List ℕ → List ℕ → List ℕ
part side s f = select (λ a. eqb (get_or f a 0) side) (points s)

-- one for each side
abbrev pub both_parts : List ℕ → List ℕ → Sides (List ℕ)
both_parts s f = both_sides (λ side. part side s f)
