-- The bytes so far that are 1 are counted.
use Rattle.std.proofs.Common.{◌≡◌, take}
use lib.Dec.{eqb}
use Rattle.std.specs.List.{count_by}
use Rattle.cube.proofs.mask.count.Given as goal

abbrev pub invariant-loop-byte : goal.invariant-loop-byte
invariant-loop-byte l = l.number ≡ count_by (λ x. eqb x 1) (take l.byte-index l.mask)
