-- The faults of lists of points, by the numbers of docs/SPECIFICATION.md, 'Read'.
-- What stands before a fault is encoded as it should be and obeys its rule: the fault is the first.
--   PointsFault m left prev least s k   of `left` points below m, after the point prev, one is missing or breaks its rule
--   ListFault m s k                     the list that the bytes s begin with has a fault
use Rattle.std.specs.Prelude.{◌⊎◌, List, ◌++◌, ℕ, suc, ◌+◌, ◌≤◌, ◌<◌}
use Rattle.refusal.specs.declared.Refusal.TheVariants.{Range}
use Rattle.refusal.specs.Refusal.{number_of}
use Rattle.varint.specs.Varint.{encode_varint}
use Rattle.varint.specs.NumberFault.{NumberFault}

-- the next number is at fault, its difference is less than `least`, its point is m or more, or a later point is at fault
pub data PointsFault (m : ℕ) : ℕ → ℕ → ℕ → List ℕ → ℕ → Type 0 where
  no_point : (left prev least : ℕ) (s : List ℕ) (k : ℕ) → NumberFault s k → PointsFault m (suc left) prev least s k
  bad_point : (left prev least v : ℕ) (s : List ℕ) → v < 16384 → (v < least) ⊎ (m ≤ prev + v)
      → PointsFault m (suc left) prev least (encode_varint v ++ s) (number_of Range)
  later_point : (left prev least v : ℕ) (s : List ℕ) (k : ℕ) → least ≤ v → prev + v < m → PointsFault m left (prev + v) 1 s k
      → PointsFault m (suc left) prev least (encode_varint v ++ s) k

-- the count is at fault, it is over m, or a point is at fault
pub data ListFault (m : ℕ) : List ℕ → ℕ → Type 0 where
  no_count : (s : List ℕ) (k : ℕ) → NumberFault s k → ListFault m s k
  count_over : (c : ℕ) (s : List ℕ) → c < 16384 → m < c → ListFault m (encode_varint c ++ s) (number_of Range)
  point_fault : (c : ℕ) (s : List ℕ) (k : ℕ) → c ≤ m → PointsFault m c 0 0 s k → ListFault m (encode_varint c ++ s) k
