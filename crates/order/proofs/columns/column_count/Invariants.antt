-- The count, and how many columns the order has from place i on, make the number of columns.
use mathlib.Core.Path.{◌≡◌}
use Prim.Native.Nat.{◌+◌, ◌≤◌}
use lib.ListN.{length}
use Rattle.order.specs.Order.{columns}
use Rattle.order.proofs.ColumnCount.{columns_left}
use Rattle.order.proofs.columns.column_count.Given as goal

abbrev pub invariant-loop-i : goal.invariant-loop-i
invariant-loop-i l = record {
  few : l.count ≤ l.i;
  same : length (columns l.order.list l.n l.d) ≡ l.count + columns_left l.order.list l.n l.d l.i;
}
