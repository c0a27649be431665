-- The exponents of n taps among those of the order that are passed are found.
use Rattle.point_rows.proofs.ExponentList.{Found}
use Rattle.point_rows.proofs.exponents.Given as goal

abbrev pub invariant-loop-i : goal.invariant-loop-i
invariant-loop-i l = Found l.order.list l.n l.i l.count l.list
