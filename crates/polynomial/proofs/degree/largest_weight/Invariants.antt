use mathlib.Core.Path.{◌≡◌}
use Prim.Native.Nat.{max}
use Rattle.cube.specs.NumberLists.{largest}
use Rattle.cube.specs.Cube.{weight}
use Rattle.cube.proofs.Masks.{marked_from}
use Rattle.polynomial.specs.Degree.{exponents}
use Rattle.polynomial.proofs.degree.largest_weight.Given as goal

abbrev pub invariant-loop-u : goal.invariant-loop-u
invariant-loop-u l = largest weight (exponents l.coefficients) ≡ max l.most (largest weight (marked_from l.coefficients l.u))
