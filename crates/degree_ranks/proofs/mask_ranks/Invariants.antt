-- The ranks and the additions are those of the degrees below d.
use mathlib.Core.Path.{◌≡◌}
use mathlib.Core.List.{List}
use Prim.Native.Nat.{ℕ, ◌*◌, ◌≤◌}
use lib.ListN.{get_or, take}
use Rattle.cube.specs.NumberLists.{below}
use Rattle.gf2.specs.Prefix.{count_to, sum_to}
use Rattle.immunity.specs.Judgement.{summed}
use Rattle.degree_ranks.proofs.Degrees.{ValuesTo}
use Rattle.degree_ranks.proofs.mask_ranks.Given as goal

-- the number of pivots below the columns of a degree
abbrev pub counted : List ℕ → ℕ → List ℕ → ℕ → ℕ
counted cs k pivots d = count_to (get_or cs d 0) (take k pivots)

-- the sum of the tally there
abbrev pub tallied : List ℕ → List ℕ → ℕ → ℕ
tallied cs tally d = sum_to (get_or cs d 0) tally

abbrev pub invariant-loop-d : goal.invariant-loop-d
invariant-loop-d l =
    ValuesTo (counted l.columns l.kept l.pivots) l.d l.ranks × (l.additions ≡ summed (tallied l.columns l.tally) (below l.d)) × (l.additions ≤ l.d * 134217728)
