-- The points of masks, and what a test keeps of them, rise.
--   rising_select   what a test keeps of rising points rises
--   below_rising    the numbers below a bound rise
--   points_rising   the points of a mask rise
use mathlib.Core.Bool.{Bool}
use mathlib.Core.List.{List, [], ◌∷◌}
use Prim.Native.Nat.{ℕ, zero, suc, ◌<◌}
use native.Mathlib.Omega.{arith}
use lib.ListN.{length}
use Rattle.cube.specs.NumberLists.{up_from, below, select}
use Rattle.cube.specs.Mask.{points}
use Rattle.cube.proofs.Listed.{select_cases, member_select}
use Rattle.cube.proofs.Masks.{member_from}
use Rattle.gf2.specs.Vector.{Each}
use Rattle.gf2.specs.Points.{Rising}
use Rattle.gf2.proofs.Each.{each_member, member_each}

-- what a test keeps of rising points rises
pub rising_select : (t : ℕ → Bool) (ps : List ℕ) → Rising ps → Rising (select t ps)
unfolding select
rising_select t [] h = tt
rising_select t (a ∷ ps) h =
    let rest : Rising (select t ps) = rising_select t ps h.1 in
    let greater : Each (λ b. a < b) (select t ps) = member_each (λ b. a < b) (select t ps) (λ b m. each_member (λ c. a < c) h.0 ((member_select t ps b).0 m).1) in
    select_cases Rising t a ps (λ e. (greater, rest)) (λ e. rest)

-- the numbers from one on rise
from_rising : (u k : ℕ) → Rising (up_from u k)
unfolding up_from
from_rising u zero = tt
from_rising u (suc k) = (member_each (λ b. u < b) (up_from (suc u) k) (λ b m. omega (arith, ((member_from (suc u) k b).0 m).0)), from_rising (suc u) k)

-- the numbers below a bound rise
pub below_rising : (m : ℕ) → Rising (below m)
below_rising m = from_rising 0 m

-- the points of a mask rise
pub points_rising : (b : List ℕ) → Rising (points b)
points_rising b = rising_select _ (below (length b)) (below_rising (length b))
