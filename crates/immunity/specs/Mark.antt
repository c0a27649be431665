-- The mark on a set, which no degree that Judge reports passes: docs/SPECIFICATION.md, 'Words'.
--   twice_exceeds r c   twice the rank r exceeds the number c of points
--   mark_of o n s       the first degree up to n at which twice the rank of the set s exceeds the number of its points, or none
--   mark_in rs n        the same from the ranks rs of a set, where its rank at degree n is the number of its points
use Rattle.std.specs.Prelude.{Bool, List, ℕ, ◌+◌, ◌*◌, ltb, length, get_or, Option}
use Rattle.std.specs.List.{find}
use Rattle.cube.specs.NumberLists.{below}
use Rattle.cube.specs.Mask.{points}
use Rattle.matrix.specs.Matrix.{rank_of}
use Rattle.immunity.specs.declared.Ranks.{Ranks}
use Rattle.immunity.specs.Ranks.{no_ranks}

-- twice the rank r exceeds the number c of points
abbrev pub twice_exceeds : ℕ → ℕ → Bool
twice_exceeds r c = ltb c (2 * r)

-- the first degree up to n at which twice the rank of the set exceeds the number of its points
unfoldable pub mark_of : List ℕ → ℕ → List ℕ → Option ℕ
mark_of o n s = find (λ d. twice_exceeds (rank_of o n d (points s)) (length (points s))) (below (n + 1))

-- the same from the ranks of a set, where that at n is the number of its points
abbrev pub mark_in : List Ranks → ℕ → Option ℕ
mark_in rs n = find (λ d. twice_exceeds (get_or rs d no_ranks).set (get_or rs n no_ranks).set) (below (n + 1))
