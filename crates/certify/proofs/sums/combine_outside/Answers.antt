-- The loop's invariant, Sums: the sums of the points below a stand in their places, and nothing is left of their rows; where a point is outside the part, fewer than 512 rows are kept.
use mathlib.Core.Path.{◌≡◌, sym, ◌∙◌}
use mathlib.Core.Bool.{true, false}
use Prim.Native.Nat.{◌<◌}
use native.Mathlib.Omega.{arith}
use lib.ListN.{length-map}
use borrow.Author.Tests.{not-true, not-false}
use Rattle.cube.specs.Mask.{member}
use Rattle.cube.proofs.Masks.{points_fewer}
use Rattle.gf2.proofs.Steps.{pivots_same}
use Rattle.packed.specs.Packed.{unpacked}
use Rattle.filter.proofs.Outside.{outside_part}
use Rattle.certify.proofs.SumsOutside.{sums_none, sums_yes, sums_no, no_sum}
use Rattle.certify.proofs.sums.combine_outside.Goals as goal
use Rattle.certify.proofs.sums.combine_outside.Goals.{After-is_outside, else-is_outside, then-is_outside+else-combine_point}

pub loop-a-init : goal.loop-a-init
loop-a-init c =
    record { long = c.told-ws; sums = sums_none (unpacked c.args.ws.now) c.args.columns c.args.kept c.args.places.now c.args.set.now c.args.part.now }

-- a point outside the part is no point of it
no_point : (c : After-is_outside) → c.is_outside.result ≡ true → member c.args.part.now c.loop-a.a ≡ false
no_point c e = outside_part c.args.set.now c.args.part.now c.loop-a.a (sym c.is_outside.ensures ∙ e)

-- so fewer than 512 rows are kept
few : (c : After-is_outside) → c.is_outside.result ≡ true → c.args.kept < 512
few c e = omega (arith, points_fewer c.args.part.now c.loop-a.a c.told-part (omega arith) (no_point c e))

pub combine_point-requires : goal.combine_point-requires
combine_point-requires c =
    let e : c.is_outside.result ≡ true = c.if-is_outside.true in
    let at = (goal.at.combine_point-requires c).After-is_outside in (
      few at e,
      omega arith,
      pivots_same c.args.pivots.now (unpacked c.args.ws.now) c.args.kept (unpacked c.loop-a.ws) c.loop-a.invariant.sums.kept c.requires.1,
      c.requires.2 c.loop-a.a (no_point at e),
    )

pub loop-a-preserved : goal.loop-a-preserved
loop-a-preserved c =
    let x = c.args in
    let a = c.loop-a.a in
    let at = (goal.at.loop-a-preserved c).After-is_outside in
    elim c.if-is_outside.branch [
      | then-is_outside+else-combine_point w ↦
          let e : c.is_outside.result ≡ true = w.if-is_outside.true in record {
            long = omega arith;
            sums = rw w.ws-is (sums_yes (unpacked x.ws.now) x.columns x.kept x.places.now x.set.now x.part.now (unpacked c.loop-a.ws) a c.loop-a.invariant.sums
                (unpacked w.combine_point.new.ws) (simp length-map c.loop-a.invariant.long) (few at e) (omega arith) w.combine_point.ensures.ws_after
                c.told-places (c.requires.2 a (no_point at e)) (not-false _ (sym w.combine_point.ensures.anything_left ∙ w.if-combine_point.false)));
          }
      | else-is_outside w ↦ record {
        long = omega arith;
        sums = rw w.ws-is (sums_no (unpacked x.ws.now) x.columns x.kept x.places.now x.set.now x.part.now (unpacked c.loop-a.ws) a c.loop-a.invariant.sums
            (sym c.is_outside.ensures ∙ w.if-is_outside.false));
      }
    ]

pub returns-then-combine_point-clause-no_sum : goal.returns-then-combine_point-clause-no_sum
returns-then-combine_point-clause-no_sum c i =
    let x = c.args in
    let e : c.is_outside.result ≡ true = c.if-is_outside.true in
    no_sum (unpacked x.ws.now) x.columns x.kept x.places.now x.set.now x.part.now (unpacked c.loop-a.ws) c.loop-a.a c.loop-a.invariant.sums
    (unpacked c.combine_point.new.ws) (simp length-map c.loop-a.invariant.long) (few (goal.at.returns-then-combine_point-clause-no_sum c).After-is_outside e) (omega arith)
    c.combine_point.ensures.ws_after (sym c.is_outside.ensures ∙ e) (not-true _ (sym c.combine_point.ensures.anything_left ∙ c.if-combine_point.true))
