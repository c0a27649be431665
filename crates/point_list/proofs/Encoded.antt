-- What is encoded is read again.
--   points_encoded     rising points
--   rising_short       rising points are no more than their bound
--   list_encoded       a list
--   list_bytes         a list is bytes
use mathlib.Core.Path.{◌≡◌, refl}
use mathlib.Core.List.{List, [], ◌∷◌, ◌++◌, append_assoc}
use Prim.Native.Nat.{ℕ, ◌+◌, ◌-◌, ◌≤◌, ◌<◌}
use native.Mathlib.Omega.{arith}
use lib.ListN.{length}
use borrow.Author.Tests.{lt-ltb, le-leb}
use Rattle.refusal.specs.Outcome.{accepted}
use Rattle.varint.specs.Drawn.{◌leaving◌}
use Rattle.varint.specs.Varint.{encode_varint, Bytes}
use Rattle.varint.proofs.Varints.{varint_encoded, varint_bytes, bytes_append}
use Rattle.point_list.specs.PointList.{points_from, point_list, RisingFrom, differences, encode_list}

-- rising points, each by its difference from the one before
pub points_encoded : (m : ℕ) → m ≤ 16384 → (ps rest : List ℕ) (prev least : ℕ) → RisingFrom (prev + least) m ps
    → points_from m (length ps) prev least (differences prev ps ++ rest) ≡ accepted (ps leaving rest)
unfolding points_from differences
points_encoded m b [] rest prev least r = refl
points_encoded m b (p ∷ ps) rest prev least r =
    let x : prev + (p - prev) ≡ p = omega arith in
    let number = varint_encoded (p - prev) (differences p ps ++ rest) (omega arith) in
    rw (append_assoc, number, x, le-leb least (p - prev) (omega arith), lt-ltb p m r.1, points_encoded m b ps rest p 1 r.2)

-- points that rise from low on and stay below m are no more than what lies between
pub rising_short : (low m : ℕ) (ps : List ℕ) → low ≤ m → RisingFrom low m ps → low + length ps ≤ m
rising_short low m [] h r = omega arith
rising_short low m (p ∷ ps) h r = omega (arith, rising_short (p + 1) m ps (omega arith) r.2)

-- a list
pub list_encoded : (m : ℕ) → m < 16384 → (ps rest : List ℕ) → RisingFrom 0 m ps → point_list m (encode_list ps ++ rest) ≡ accepted (ps leaving rest)
unfolding point_list encode_list
list_encoded m b ps rest r =
    let short : 0 + length ps ≤ m = rising_short 0 m ps (omega arith) r in
    rw (append_assoc, varint_encoded (length ps) (differences 0 ps ++ rest) (omega arith), le-leb (length ps) m (omega arith))
    (points_encoded m (omega arith) ps rest 0 0 r)

-- the differences of rising points are bytes
differences_bytes : (m : ℕ) → m ≤ 16384 → (ps : List ℕ) (low prev : ℕ) → RisingFrom low m ps → Bytes (differences prev ps)
unfolding differences
differences_bytes m b [] low prev r = tt
differences_bytes m b (p ∷ ps) low prev r =
    bytes_append (encode_varint (p - prev)) (differences p ps) (varint_bytes (p - prev) (omega arith)) (differences_bytes m b ps (p + 1) p r.2)

-- a list is bytes
pub list_bytes : (m : ℕ) → m < 16384 → (ps : List ℕ) → RisingFrom 0 m ps → Bytes (encode_list ps)
unfolding encode_list
list_bytes m b ps r =
    let short : 0 + length ps ≤ m = rising_short 0 m ps (omega arith) r in
    bytes_append (encode_varint (length ps)) (differences 0 ps) (varint_bytes (length ps) (omega arith)) (differences_bytes m (omega arith) ps 0 0 r)
