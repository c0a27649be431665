-- Each turn is a law of Combining.antt: the places of the points taken are not that of the next point (places_apart).
use mathlib.Core.Path.{◌≡◌, sym, ◌∙◌}
use mathlib.Core.Bool.{false≢true}
use Prim.Native.Nat.{◌+◌, ◌≤◌}
use native.Mathlib.Omega.{arith}
use lib.ListN.{length, length-map}
use borrow.Author.Tests.{eq-eqb, ne_eqb}
use Rattle.cube.specs.NumberLists.{Inside}
use Rattle.cube.specs.Mask.{points}
use Rattle.cube.proofs.Masks.{member_points}
use Rattle.gf2.specs.Steps.{Places}
use Rattle.packed.specs.Packed.{unpack, unpacked}
use Rattle.matrix.proofs.Taking.{points_to}
use Rattle.matrix.specs.Combination.{Combines}
use Rattle.matrix.proofs.Combining.{places_apart, kept_few, points_before, not_before, combines_none, combines_yes, combines_no}
use Rattle.matrix.proofs.combination.eliminate_combining.Goals as goal
use Rattle.matrix.proofs.combination.eliminate_combining.Goals.{At-loop-q, else-byte-eq1, then-byte-eq1}

pub loop-q-init : goal.loop-q-init
loop-q-init c =
    let none = combines_none (unpacked c.args.ws.now) c.args.columns c.args.mask.now c.args.places.now in
    record { at_most = omega arith; rows = c.told-ws; room = c.told-places; pivots = λ j h. absurd (omega arith); combines = none }

-- the places of the points taken are not that of the next
apart : (l : At-loop-q) → l.loop-q.q ≤ 512 → Places l.loop-q.places l.loop-q.kept (512 + l.loop-q.q)
apart l h =
    let b = l.args.mask.now in
    let q = l.loop-q.q in
    let i = l.loop-q.invariant in
    places_apart (unpacked l.args.ws.now) (unpacked l.loop-q.ws) l.args.columns (points_to b q) l.loop-q.kept l.loop-q.places (omega arith) i.combines
    (λ a m. omega (arith, points_before b q a m)) q (not_before b q)

pub take_combining-kept-requires : goal.take_combining-kept-requires
take_combining-kept-requires c =
    (omega arith, omega arith, c.loop-q.invariant.pivots, apart (goal.at.take_combining-kept-requires c).At-loop-q (omega arith))

pub loop-q-preserved : goal.loop-q-preserved
loop-q-preserved c =
    let t = unpacked c.args.ws.now in
    let b = c.args.mask.now in
    let m = c.args.columns in
    let q = c.loop-q.q in
    let ws = c.loop-q.ws in
    let i = c.loop-q.invariant in
    elim c.if-byte-eq1.branch [
      | then-byte-eq1 w ↦ let r = w.take_combining-kept in
          let e : Combines t (unpacked r.new.ws) m (points_to b (q + 1)) r.result r.new.places =
          combines_yes t m b (unpacked ws) q c.loop-q.kept c.loop-q.places i.combines (unpacked r.new.ws) r.result r.new.places (length-map ws unpack ∙ i.rows) (omega arith) (omega arith) i.room
          (apart (goal.at.loop-q-preserved c).At-loop-q (omega arith)) (eq-eqb _ _ w.if-byte-eq1.true) r.ensures.row_followed r.ensures.place_taken r.ensures.number_kept.0 in
          rw (w.ws-is, w.pivots-is, w.places-is, w.kept-is)
          (record { at_most = omega (arith, r.ensures.number_kept.1); rows = omega arith; room = omega arith; pivots = r.ensures.pivots; combines = e })
      | else-byte-eq1 w ↦ rw (w.ws-is, w.pivots-is, w.places-is, w.kept-is) (record {
        at_most = omega arith;
        rows = i.rows;
        room = i.room;
        pivots = i.pivots;
        combines = combines_no t m b (unpacked ws) q c.loop-q.kept c.loop-q.places i.combines (ne_eqb _ _ w.if-byte-eq1.false);
      })
    ]

pub returns : goal.returns
returns c =
    let t = unpacked c.args.ws.now in
    let t' = unpacked c.loop-q.ws in
    let b = c.args.mask.now in
    let k = c.loop-q.kept in
    let ps = c.loop-q.places in
    let i = c.loop-q.invariant in
    let e : c.loop-q.q ≡ length b = omega arith in
    let all : Combines t t' c.args.columns (points b) k ps = rw (sym e) i.combines in
    let inside : Inside 512 (points b) = λ a m. omega (arith, points_before b (length b) a m) in
    record {
      combines = all;
      kept_at_most_points = kept_few t t' c.args.columns (points b) k ps (omega arith) all;
      pivots = (i.pivots, λ a o. places_apart t t' c.args.columns (points b) k ps (omega arith) all inside a (λ m. false≢true (sym o ∙ (member_points b a).0 m)));
    }
