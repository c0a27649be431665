-- What is read was encoded.
--   points_decoded     rising points
--   list_decoded       a list
use mathlib.Core.Path.{◌≡◌, refl, ap}
use mathlib.Core.List.{List, [], ◌∷◌}
use Prim.Native.Nat.{ℕ, zero, suc, ◌+◌, ◌-◌, ◌≤◌, ◌<◌}
use native.Mathlib.Omega.{arith}
use lib.Dec.{ltb, leb}
use lib.ListN.{length}
use borrow.Author.Tests.{ltb-true, leb-true}
use Rattle.refusal.specs.declared.Refusal.TheVariants.{Range}
use Rattle.refusal.specs.Outcome.{accepted, ◌otherwise◌}
use Rattle.refusal.proofs.Outcomes.{check_passed}
use Rattle.varint.specs.Drawn.{◌leaving◌}
use Rattle.varint.specs.Varint.{varint, encode_varint, Bytes}
use Rattle.varint.proofs.Draws.{draw_accepted}
use Rattle.varint.proofs.Varints.{Spells, spells_both, varint_decoded}
use Rattle.point_list.specs.PointList.{points_from, point_list, RisingFrom, differences, encode_list}
use Rattle.point_list.proofs.PointsDrawn.{before_accepted}

-- one point before others
one_more : (m k prev least v : ℕ) (s next qs rest : List ℕ) → Spells s (encode_varint v) next → least ≤ v → prev + v < m
    → Spells next (differences (prev + v) qs) rest × (length qs ≡ k) × RisingFrom (prev + v + 1) m qs
    → Spells s (differences prev ((prev + v) ∷ qs)) rest × (suc (length qs) ≡ suc k) × RisingFrom (prev + least) m ((prev + v) ∷ qs)
unfolding differences
one_more m k prev least v s next qs rest number l b (others, count, rising) =
    let step : prev + v - prev ≡ v = omega arith in
    rw step (spells_both number others, ap suc count, (omega arith, b, rising))

-- k rising points, each by its difference from the one before
pub points_decoded : (m k prev least : ℕ) (s : List ℕ) {ps rest : List ℕ} → Bytes s → points_from m k prev least s ≡ accepted (ps leaving rest)
    → Spells s (differences prev ps) rest × (length ps ≡ k) × RisingFrom (prev + least) m ps
unfolding points_from differences
points_decoded m zero prev least s {ps} {rest} h e =
    let none : [] ≡ ps = cc in
    let all : s ≡ rest = cc in
    rw (← none, ← all) (record { same = refl; bytes = h }, refl, tt)
points_decoded m (suc k) prev least s h e =
    let (v, next, number, rest_of) = draw_accepted (varint s) _ e in
    let (least-ok, below) = check_passed (leb least v) Range (ltb (prev + v) m otherwise Range ∷ []) _ _ rest_of in
    let (below-ok, point) = check_passed (ltb (prev + v) m) Range [] _ _ below in
    let (qs, first, later) = before_accepted (prev + v) _ point in
    let (spelled, _) = varint_decoded s h number in
    rw first
    (one_more m k prev least v s next qs _ spelled (leb-true least v least-ok) (ltb-true (prev + v) m below-ok)
    (points_decoded m k (prev + v) 1 next spelled.bytes later))

-- a list
pub list_decoded : (m : ℕ) (s : List ℕ) {ps rest : List ℕ} → Bytes s → point_list m s ≡ accepted (ps leaving rest)
    → Spells s (encode_list ps) rest × RisingFrom 0 m ps
unfolding point_list encode_list
list_decoded m s h e =
    let (count, next, number, rest_of) = draw_accepted (varint s) _ e in
    let (_, points) = check_passed (leb count m) Range [] _ _ rest_of in
    let (spelled, _) = varint_decoded s h number in
    let (others, long, rising) = points_decoded m count 0 0 next spelled.bytes points in
    rw long (spells_both spelled others, rising)
