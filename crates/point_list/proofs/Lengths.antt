-- How many bytes lists of points have.
--   points_length   points have at most two each
--   list_sum        a list has those of its count and those of its points
--   list_length     a list of points of up to nine taps has at most 1,026
--   points_cut      points that end too early have at most two each
--   list_cut        a list that ends too early has no more than its count and as many points as there are
use mathlib.Core.Path.{◌≡◌, refl}
use mathlib.Core.List.{List, [], ◌∷◌}
use Prim.Native.Nat.{ℕ, ◌+◌, ◌-◌, ◌*◌, ◌≤◌}
use native.Mathlib.Omega.{arith}
use lib.Pow.{pow_mono}
use lib.ListN.{length, length-append}
use Rattle.cube.specs.Cube.{size}
use Rattle.varint.specs.Varint.{encode_varint}
use Rattle.varint.proofs.Varints.{varint_length}
use Rattle.varint.proofs.NumberFaults.{number_cut}
use Rattle.point_list.specs.PointList.{RisingFrom, differences, encode_list}
use Rattle.point_list.specs.Fault.{PointsFault, no_point, bad_point, later_point, ListFault, no_count, count_over, point_fault}
use Rattle.point_list.proofs.Encoded.{rising_short}

-- points have at most two each
points_length : (prev : ℕ) (ps : List ℕ) → length (differences prev ps) ≤ 2 * length ps
unfolding differences
points_length prev [] = omega arith
points_length prev (p ∷ ps) = rw (length-append (encode_varint (p - prev)) (differences p ps)) (omega (arith, varint_length (p - prev), points_length p ps))

-- a list has the bytes of its count and those of its points
pub list_sum : (ps : List ℕ) {k : ℕ} → k ≡ length ps → length (encode_list ps) ≡ length (encode_varint k) + length (differences 0 ps)
unfolding encode_list
list_sum ps e = rw e (length-append (encode_varint (length ps)) (differences 0 ps))

-- a list of points of up to nine taps
pub list_length : (n : ℕ) (ps : List ℕ) → n ≤ 9 → RisingFrom 0 (size n) ps → length (encode_list ps) ≤ 1026
list_length n ps h r =
    let short : 0 + length ps ≤ size n = rising_short 0 (size n) ps (omega arith) r in
    omega (arith, list_sum ps refl, varint_length (length ps), points_length 0 ps, pow_mono h)

-- points that end too early have at most two bytes each
points_cut : {m left prev least k : ℕ} {s : List ℕ} → PointsFault m left prev least s k → k ≡ 2 → length s ≤ 2 * left
points_cut (no_point left prev least s k f) e = omega (arith, number_cut f e)
points_cut (bad_point left prev least v s small l) e = absurd (omega arith)
points_cut (later_point left prev least v s k l u f) e = rw (length-append (encode_varint v) s) (omega (arith, varint_length v, points_cut f e))

-- a list that ends too early has no more bytes than its count and as many points as there are
pub list_cut : {m k : ℕ} {s : List ℕ} → ListFault m s k → k ≡ 2 → length s ≤ 2 + 2 * m
list_cut (no_count s k f) e = omega (arith, number_cut f e)
list_cut (count_over c s small l) e = absurd (omega arith)
list_cut (point_fault c s k l f) e = rw (length-append (encode_varint c) s) (omega (arith, varint_length c, points_cut f e))
