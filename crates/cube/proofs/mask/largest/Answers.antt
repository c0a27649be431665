-- The fold keeps the larger of what it has and the next byte (fold_largest).
use mathlib.Core.Path.{◌≡◌}
use mathlib.Core.List.{List, [], ◌∷◌}
use Prim.Native.Nat.{ℕ, max}
use native.Mathlib.Omega.{arith}
use Rattle.std.proofs.Common.{rules}
use Rattle.std.specs.List.{fold}
use Rattle.std.proofs.lemmas.Iterator.{YieldsList-from_slice}
use Rattle.std.proofs.lemmas.Iterator.Consumers.{fold_from_yields_List}
use Rattle.cube.specs.NumberLists.{largest}
use Rattle.cube.proofs.mask.largest.Goals as goal

-- a fold from any number on
fold_largest : (a : ℕ) (b : List ℕ) → fold max a b ≡ max a (largest (λ x. x) b)
unfolding largest
fold_largest a [] = omega arith
fold_largest a (x ∷ b) = omega (arith, fold_largest (max a x) b)

pub returns : goal.returns
returns c =
    let ran = fold_from_yields_List _ max 0 c.fold.result c.fold.ensures.ran (YieldsList-from_slice c.args.bytes.now (cc)) (λ a x b q k. search rules) in
    omega (arith, ran, fold_largest 0 c.args.bytes.now)
