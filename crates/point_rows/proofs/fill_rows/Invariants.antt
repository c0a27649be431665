-- The rows of the points from a on are in their places, which is what fill_point asks for the point below a.
use mathlib.Core.Path.{◌≡◌}
use Rattle.packed.specs.Packed.{unpacked}
use Rattle.point_rows.proofs.Filling.{filled_from}
use Rattle.point_rows.proofs.fill_rows.Given as goal

abbrev pub invariant-loop-a : goal.invariant-loop-a
invariant-loop-a l = unpacked l.ws ≡ filled_from l.list l.n (unpacked l.initial.ws) l.a
