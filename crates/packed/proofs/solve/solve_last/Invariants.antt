use mathlib.Core.List.{List}
use Prim.Native.Nat.{ℕ}
use lib.ListN.{take, drop}
use Rattle.gf2.specs.Vector.{Row, Same}
use Rattle.gf2.specs.Steps.{row_of}
use Rattle.gf2.specs.Solve.{solve_last}
use Rattle.packed.specs.Packed.{unpack, unpacked}
use Rattle.packed.proofs.solve.solve_last.Given as goal

-- the row for the kept rows from row j on
abbrev pub from : List Row → ℕ → ℕ → Row
from t kept j = solve_last (drop j (take kept t)) (row_of t kept)

abbrev pub invariant-loop-j : goal.invariant-loop-j
invariant-loop-j l = Same (unpack l.x) (from (unpacked l.ws) l.kept l.j)
