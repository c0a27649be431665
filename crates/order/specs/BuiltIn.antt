-- The built-in order: docs/SPECIFICATION.md, 'Graded order'.
--   of_weights w k   the numbers below 512 of the k weights from w on, by weight, and by number within a weight
--   graded           all 512 exponents, so ordered
--   Precedes u v     the exponent u stands before v in the built-in order: by weight, and by number within a weight
use Rattle.std.specs.Prelude.{◌≡◌, ◌⊎◌, List, [], ◌++◌, ℕ, zero, suc, ◌<◌, eqb}
use Rattle.std.specs.Int.Count.{ones}
use Rattle.cube.specs.NumberLists.{up_from, below, select}
use Rattle.cube.specs.Cube.{weight}

-- the numbers below 512 of the k weights from w on
unfoldable pub of_weights : ℕ → ℕ → List ℕ
unfolding ones up_from select
of_weights w zero = []
of_weights w (suc k) = select (λ u. eqb (weight u) w) (below 512) ++ of_weights (suc w) k

-- by weight, and by number within a weight
unfoldable pub graded : List ℕ
unfolding of_weights
graded = of_weights 0 10

-- u is of less weight, or of the same weight and less
abbrev pub Precedes : ℕ → ℕ → Type 0
Precedes u v = (weight u < weight v) ⊎ ((weight u ≡ weight v) × (u < v))
