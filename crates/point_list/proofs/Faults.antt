-- A list is refused by a number just if that is the number of its first fault.
--   list_fault   a list that is refused has that fault
--   fault_list   a list with a fault is refused by its number
use mathlib.Core.Path.{◌≡◌, refl, sym}
use mathlib.Core.Logic.{inl, inr}
use mathlib.Core.Bool.{Bool, true, false}
use mathlib.Core.List.{List, ◌++◌}
use Prim.Native.Nat.{ℕ, zero, suc, ◌+◌, ◌<◌}
use native.Mathlib.Omega.{arith}
use lib.Dec.{ltb, leb}
use borrow.Author.Tests.{ltb-true, ltb-false, leb-true, leb-false, lt-ltb, le-ltb, lt-leb, le-leb}
use Rattle.refusal.specs.declared.Refusal.TheVariants.{Range}
use Rattle.refusal.specs.Outcome.{refused, ◌otherwise◌, after}
use Rattle.refusal.proofs.Outcomes.{not_both}
use Rattle.varint.specs.Drawn.{Drawn}
use Rattle.varint.specs.Varint.{varint, encode_varint, Bytes}
use Rattle.varint.proofs.Draws.{draw_refused, after_refused}
use Rattle.varint.proofs.Varints.{varint_encoded, varint_decoded}
use Rattle.varint.proofs.NumberFaults.{number_fault, fault_number}
use Rattle.point_list.specs.PointList.{points_from, point_list}
use Rattle.point_list.specs.Fault.{PointsFault, no_point, bad_point, later_point, ListFault, no_count, count_over, point_fault}
use Rattle.point_list.proofs.PointsDrawn.{before_refused}

-- points
points_fault : (m left prev least : ℕ) (s : List ℕ) {k : ℕ} → Bytes s → points_from m left prev least s ≡ refused k → PointsFault m left prev least s k
unfolding points_from
points_fault m zero prev least s h e = absurd (not_both (sym e))
points_fault m (suc left) prev least s {k} h e =
    draw_refused (PointsFault m (suc left) prev least s k) (varint s) _ e (λ q. no_point left prev least s k (number_fault s q)) (λ v rest number e₁.
    let (spelled, small) = varint_decoded s h number in
    rw spelled.same
    (after_refused (PointsFault m (suc left) prev least (encode_varint v ++ rest) k) (leb least v) Range _ e₁
    (λ f q. rw (← q) (bad_point left prev least v rest small (inl (leb-false least v f)))) (λ l e₂.
    after_refused (PointsFault m (suc left) prev least (encode_varint v ++ rest) k) (ltb (prev + v) m) Range _ e₂
    (λ f q. rw (← q) (bad_point left prev least v rest small (inr (ltb-false (prev + v) m f)))) (λ b e₃.
    later_point left prev least v rest k (leb-true least v l) (ltb-true (prev + v) m b)
    (points_fault m left (prev + v) 1 rest spelled.bytes (before_refused (prev + v) _ e₃))))))

-- a list
pub list_fault : (m : ℕ) (s : List ℕ) {k : ℕ} → Bytes s → point_list m s ≡ refused k → ListFault m s k
unfolding point_list
list_fault m s {k} h e =
    draw_refused (ListFault m s k) (varint s) _ e (λ q. no_count s k (number_fault s q)) (λ c rest number e₁.
    let (spelled, small) = varint_decoded s h number in
    rw spelled.same
    (after_refused (ListFault m (encode_varint c ++ rest) k) (leb c m) Range _ e₁
    (λ f q. rw (← q) (count_over c rest small (leb-false c m f))) (λ l e₂.
    point_fault c rest k (leb-true c m l) (points_fault m c 0 0 rest spelled.bytes e₂))))

-- of points
fault_points : {m left prev least k : ℕ} {s : List ℕ} → m < 16384 → PointsFault m left prev least s k → points_from m left prev least s ≡ refused k
unfolding points_from
fault_points b (no_point left prev least s k f) = rw (fault_number f)
fault_points b (bad_point left prev least v s small (inl l)) = rw (varint_encoded v s small, lt-leb least v l)
fault_points {m} b (bad_point left prev least v s small (inr l)) = rw (varint_encoded v s small, le-ltb (prev + v) m l) (either (leb least v))
  where
    either : (t : Bool) → after {A = Drawn (List ℕ)} (t otherwise Range) (refused 5) ≡ refused 5
    either true = refl
    either false = refl
fault_points {m} b (later_point left prev least v s k l u f) =
    rw (varint_encoded v s (omega arith), le-leb least v l, lt-ltb (prev + v) m u, fault_points b f)

-- of a list
pub fault_list : {m k : ℕ} {s : List ℕ} → m < 16384 → ListFault m s k → point_list m s ≡ refused k
unfolding point_list
fault_list b (no_count s k f) = rw (fault_number f)
fault_list {m} b (count_over c s small l) = rw (varint_encoded c s small, lt-leb c m l)
fault_list {m} b (point_fault c s k l f) = rw (varint_encoded c s (omega arith), le-leb c m l, fault_points b f)
