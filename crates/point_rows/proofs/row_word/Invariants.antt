-- The bits of w are the columns from place i of the 64 on.
use mathlib.Core.Path.{◌≡◌}
use mathlib.Core.List.{List}
use Prim.Native.Nat.{ℕ, ◌+◌, ◌-◌}
use lib.ListN.{take, drop}
use Rattle.gf2.specs.Vector.{Row}
use Rattle.packed.specs.Packed.{number}
use Rattle.point_rows.specs.Rows.{monomials}
use Rattle.point_rows.proofs.row_word.Given as goal

-- the columns that are in the word: those from place i of the 64 on
abbrev pub part : List ℕ → ℕ → ℕ → ℕ → Row
part xs from a i = monomials (take (64 - i) (drop (from + i) xs)) a

abbrev pub invariant-loop-i : goal.invariant-loop-i
invariant-loop-i l = l.w ≡ number (part l.exponents l.from l.a.0 l.i)
