-- Combinations: which points' rows sum to a kept row, and to any sum of rows.
--   combinations_express   each combination expresses its kept row over the kept points
--   expressed              a row of which nothing is left is expressed over the kept points by the combinations of the rows that were added to it, and in no other way
use mathlib.Core.List.{List, []}
use Prim.Native.Nat.{ℕ}
use lib.ListN.{get_or}
use Rattle.gf2.specs.Vector.{Row, total, Zero, Same, chosen}
use Rattle.gf2.specs.Elimination.{reduce, Elimination, eliminate}
use Rattle.gf2.specs.Points.{Rising, Expresses}
use Rattle.gf2.proofs.Bits.{bits}
use Rattle.gf2.proofs.Paired.{paired_at}
use Rattle.gf2.proofs.Dot.{entry_add}
use Rattle.gf2.proofs.Reducing.{reduce_total}
use Rattle.gf2.proofs.Points.{expresses_none, expresses_same, expresses_total, expresses_unique}
use Rattle.gf2.proofs.Eliminate.{taken}
use Rattle.gf2.proofs.Kept.{points_independent}

module _ (row : ℕ → Row) (ps : List ℕ) (rising : Rising ps) where
  -- each combination expresses its kept row over the kept points
  pub combinations_express : (j : ℕ) → let e : Elimination = eliminate row ps in
      Expresses row e.points (get_or e.combinations j []) (get_or e.kept j [])
  combinations_express =
      let e : Elimination = eliminate row ps in
      paired_at (Expresses row e.points) (expresses_none row e.points) e.combinations e.kept ((taken row ps).combinations rising)

  -- a row of which nothing is left is expressed over the kept points by the combinations of the rows that were added to it, and in no other way
  pub expressed : (v : Row) → let e : Elimination = eliminate row ps in Zero (reduce e.kept v).left
      → let x : Row = total (chosen (reduce e.kept v).added e.combinations) in
      Expresses row e.points x v × ((y : Row) → Expresses row e.points y v → Same y x)
  expressed v z =
      let e : Elimination = eliminate row ps in
      let total = expresses_total row e.points e.combinations e.kept ((taken row ps).combinations rising) (reduce e.kept v).added in
      let x : Expresses row e.points _ v = expresses_same row (λ c. simp (reduce_total e.kept v c, entry_add, z c, bits)) total in
      (x, λ y y-expresses. expresses_unique row (points_independent row ps) y-expresses x)
