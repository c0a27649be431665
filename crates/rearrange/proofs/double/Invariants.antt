use mathlib.Core.Path.{◌≡◌}
use Prim.Native.Nat.{ℕ, ◌+◌, ◌^◌, ◌<◌}
use lib.Bits.{bit_or}
use lib.ListN.{get_or}
use Rattle.rearrange.proofs.double.Given as goal

abbrev pub invariant-loop-r : goal.invariant-loop-r
invariant-loop-r l =
    ((i : ℕ) → i < 2 ^ l.k → get_or l.old i 0 ≡ get_or l.initial.old i 0) × ((i : ℕ) → i < l.r → get_or l.old (l.half + i) 0 ≡ bit_or l.bit (get_or l.initial.old i 0))
