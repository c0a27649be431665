use mathlib.Core.Path.{◌≡◌, refl, sym, ap, ◌∙◌}
use mathlib.Core.Bool.{Bool, true, false, cond}
use mathlib.Core.List.{List, [], ◌∷◌, ◌++◌, append-nil}
use Prim.Native.Nat.{ℕ, ◌+◌, ◌<◌}
use native.Mathlib.Omega.{arith}
use lib.Dec.{ltb}
use lib.ListN.{length, get_or, set, take}
use borrow.Author.Tests.{lt-ltb, le-ltb}
use Rattle.cube.specs.Mask.{with_ones}
use Rattle.cube.proofs.MaskOf.{with_ones_snoc, with_ones_mask}
use Rattle.gf2.specs.Vector.{chosen}
use Rattle.gf2.specs.Prefix.{points_below}
use Rattle.gf2.proofs.PointsBelow.{below_next}
use Rattle.packed.specs.Packed.{zeros}
use Rattle.matrix.proofs.kept.mark_below.Invariants.{marked}
use Rattle.matrix.proofs.kept.mark_below.Goals as goal
use Rattle.matrix.proofs.kept.mark_below.Goals.{else-pivots-j, then-pivots-j}

-- the next point is marked just if its pivot is below the column
marked-next : (c : ℕ) (ps qs : List ℕ) (j : ℕ) → j < length ps → j < length qs
    → marked c ps qs (j + 1) ≡ cond (ltb (get_or ps j 0) c) (set (marked c ps qs j) (get_or qs j 0) 1) (marked c ps qs j)
unfolding chosen
marked-next c ps qs j l m = ap (λ us. with_ones us (zeros 512)) (below_next c ps qs j l m) ∙ go (ltb (get_or ps j 0) c)
  where
    before : List ℕ
    before = points_below c (take j ps) (take j qs)

    go : (b : Bool) → with_ones (before ++ chosen (b ∷ []) (get_or qs j 0 ∷ [])) (zeros 512) ≡ cond b (set (with_ones before (zeros 512)) (get_or qs j 0) 1) (with_ones before (zeros 512))
    go true = with_ones_snoc before (get_or qs j 0) (zeros 512)
    go false = ap (λ us. with_ones us (zeros 512)) (append-nil before)

pub loop-j-init : goal.loop-j-init
unfolding chosen with_ones zeros
loop-j-init c = refl

pub loop-j-preserved : goal.loop-j-preserved
loop-j-preserved c =
    let i = c.loop-j.invariant in
    let j = c.loop-j.j in
    let ps = c.args.pivots.now in
    let qs = c.args.points.now in
    let next = marked-next c.args.columns ps qs j (omega arith) (omega arith) in
    elim c.if-pivots-j.branch [
      | then-pivots-j w ↦ w.marks-is ∙ ap (λ x. set x (get_or qs j 0) 1) i ∙ sym (rw (lt-ltb (get_or ps j 0) c.args.columns w.if-pivots-j.true) at next)
      | else-pivots-j w ↦ w.marks-is ∙ i ∙ sym (rw (le-ltb (get_or ps j 0) c.args.columns w.if-pivots-j.false) at next)
    ]

pub returns : goal.returns
unfolding zeros
returns c =
    let e : c.loop-j.j ≡ c.args.kept = omega arith in
    let ps = c.args.pivots.now in
    let qs = c.args.points.now in
    c.loop-j.invariant ∙ ap (marked c.args.columns ps qs) e ∙ with_ones_mask (points_below c.args.columns (take c.args.kept ps) (take c.args.kept qs))
