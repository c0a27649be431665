-- What the bytes are to be is the bytes now, with the columns from place i on marked where x, from column `column` on, is one.
use mathlib.Core.Path.{◌≡◌}
use mathlib.Core.List.{List}
use Prim.Native.Nat.{ℕ, ◌≤◌}
use lib.ListN.{drop}
use Rattle.cube.specs.Mask.{with_ones}
use Rattle.order.specs.Order.{columns}
use Rattle.gf2.specs.Vector.{Row, chosen}
use Rattle.packed.specs.Packed.{unpack}
use Rattle.order.proofs.ColumnCount.{later_columns}
use Rattle.witness.proofs.mark_columns.Given as goal

-- the bytes with the columns from place i on marked, the first of which is column `column` of the row
abbrev pub marked : List ℕ → ℕ → ℕ → Row → ℕ → ℕ → List ℕ → List ℕ
marked o n d v column i b = with_ones (chosen (drop column v) (later_columns o n d i)) b

abbrev pub invariant-loop-i : goal.invariant-loop-i
invariant-loop-i l = record {
  few : l.column ≤ l.i;
  same : with_ones (chosen (unpack l.x) (columns l.order.list l.n l.d)) l.initial.bytes ≡ marked l.order.list l.n l.d (unpack l.x) l.column l.i l.bytes;
}
