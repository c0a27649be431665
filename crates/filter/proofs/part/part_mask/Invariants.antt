-- Each byte of the mask below a is that of part_test.
use mathlib.Core.Path.{◌≡◌}
use Prim.Native.Nat.{ℕ, ◌<◌}
use lib.ListN.{length, get_or}
use Rattle.cube.specs.Mask.{byte}
use Rattle.filter.proofs.PartPoints.{part_test}
use Rattle.filter.proofs.part.part_mask.Given as goal

abbrev pub invariant-loop-a : goal.invariant-loop-a
invariant-loop-a l = record { long : length l.mask ≡ 512; bytes : (b : ℕ) → b < l.a → get_or l.mask b 0 ≡ byte (part_test l.side l.set l.table b) }
