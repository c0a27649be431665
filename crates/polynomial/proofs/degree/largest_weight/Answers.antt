-- The loop's invariant: the largest weight of all marked exponents is the larger of `most` and the largest weight of those from u on.
use mathlib.Core.Path.{◌≡◌, ap}
use mathlib.Core.List.{List}
use Prim.Native.Nat.{ℕ, ◌+◌, ◌<◌, max}
use lib.ListN.{length, get_or}
use native.Mathlib.Omega.{arith}
use Rattle.cube.specs.NumberLists.{largest}
use Rattle.cube.specs.Cube.{weight}
use Rattle.cube.proofs.Masks.{marked_from, marked_all, marked_here, marked_later, marked_none}
use Rattle.polynomial.proofs.degree.largest_weight.Goals as goal
use Rattle.polynomial.proofs.degree.largest_weight.Goals.{else-coefficient-eq1, then-coefficient-eq1}

-- what a byte's test leaves of the whole
module _ (b : List ℕ) (u most whole : ℕ) (l : u < length b) (h : whole ≡ max most (largest weight (marked_from b u))) where
  here : get_or b u 0 ≡ 1 → whole ≡ max (max most (weight u)) (largest weight (marked_from b (u + 1)))
  unfolding largest
  here e = let x = ap (largest weight) (marked_here b u l e) in omega (arith, x)

  later : (get_or b u 0 ≡ 1 → ⊥) → whole ≡ max most (largest weight (marked_from b (u + 1)))
  later e = let x = ap (largest weight) (marked_later b u l e) in omega (arith, x)

pub loop-u-init : goal.loop-u-init
loop-u-init c = let x = ap (largest weight) (marked_all c.args.coefficients.now) in omega (arith, x)

pub loop-u-preserved : goal.loop-u-preserved
loop-u-preserved c =
    let l = c.loop-u in
    elim c.if-coefficient-eq1.branch [
      | then-coefficient-eq1 w ↦
          let x = here c.args.coefficients.now l.u l.most _ (omega arith) l.invariant w.if-coefficient-eq1.true in
          omega (arith, x)
      | else-coefficient-eq1 w ↦
          let x = later c.args.coefficients.now l.u l.most _ (omega arith) l.invariant w.if-coefficient-eq1.false in
          omega (arith, x)
    ]

pub returns : goal.returns
unfolding largest
returns c =
    let x = ap (largest weight) (marked_none c.args.coefficients.now c.loop-u.u (omega arith)) in
    omega (arith, x, c.loop-u.invariant)
