-- The rows of a certificate, checked by sums over supersets: rows of points sum to zero at a degree just if for each exponent up to that
-- degree an even number of the points contain it.
--   others_row b              the numbers below 512 that the mask b does not mark, as a row over points
--   columns_row n d           the exponents of n taps that weigh at most d, as a row over exponents
--   names_sum v y z a         the row v over points has no one where y has, and with the point a no superset sum of v is one where z has a one
--   checked_row s b y z v a   what the row v names for the point a is right: `names_sum` for a point of the mask s that b does not mark, else v is zero
use Rattle.std.specs.Prelude.{Bool, not, ◌&&◌, cond, List, map, ℕ}
use Rattle.cube.specs.NumberLists.{below}
use Rattle.cube.specs.Mask.{member, points}
use Rattle.order.specs.Order.{is_column}
use Rattle.gf2.specs.Vector.{Row, add, unit}
use Rattle.gf2.specs.Elimination.{is_zero}
use Rattle.gf2.specs.Cut.{common}
use Rattle.filter.specs.Outside.{is_outside}
use Rattle.superset_sums.specs.SupersetSums.{superset_sums}

-- the numbers that a mask does not mark
abbrev pub others_row : List ℕ → Row
others_row b = map (λ q. not (member b q)) (below 512)

-- the exponents up to a degree
abbrev pub columns_row : ℕ → ℕ → Row
columns_row n d = map (is_column n d) (below 512)

-- no one in common with y, and with the point a no superset sum in common with z
unfoldable pub names_sum : Row → Row → Row → ℕ → Bool
names_sum v y z a = is_zero (common v y) && is_zero (common (superset_sums (add v (unit a))) z)

-- what is named for a point is right
unfoldable pub checked_row : List ℕ → List ℕ → Row → Row → Row → ℕ → Bool
checked_row s b y z v a = cond (is_outside (points s) (points b) a) (names_sum v y z a) (is_zero v)
