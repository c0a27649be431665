-- The loop's invariant: zeros with the points marked whose pivots, among the first j, are below the column.
use mathlib.Core.Path.{◌≡◌}
use mathlib.Core.List.{List}
use Prim.Native.Nat.{ℕ}
use lib.ListN.{take}
use Rattle.cube.specs.Mask.{with_ones}
use Rattle.gf2.specs.Prefix.{points_below}
use Rattle.packed.specs.Packed.{zeros}
use Rattle.matrix.proofs.kept.mark_below.Given as goal

-- zeros with the points marked whose pivots, among the first j, are below c
abbrev pub marked : ℕ → List ℕ → List ℕ → ℕ → List ℕ
marked c ps qs j = with_ones (points_below c (take j ps) (take j qs)) (zeros 512)

abbrev pub invariant-loop-j : goal.invariant-loop-j
invariant-loop-j l = l.marks ≡ marked l.columns l.pivots l.points l.j
