-- A workspace that is ready.
--   ready_after   what leaves the rows of points in their places leaves it ready
use mathlib.Core.Path.{◌≡◌}
use mathlib.Core.List.{List}
use Prim.Native.Nat.{ℕ}
use lib.ListN.{drop}
use Rattle.packed.specs.Packed.{unpacked}
use Rattle.point_rows.specs.Workspace.{exponents}
use Rattle.point_rows.proofs.Stored.{stays_rows}
use Rattle.degree_ranks.specs.Ready.{Ready}

-- what leaves the rows of points in their places leaves it ready
pub ready_after : {o : List ℕ} {n : ℕ} {ws : List (List ℕ)} (ws' : List (List ℕ)) → drop 512 (unpacked ws') ≡ drop 512 (unpacked ws) → Ready o n ws → Ready o n ws'
ready_after {o} {n} {ws} ws' e r = record { small = r.small; rows = stays_rows (exponents o n) n (unpacked ws) (unpacked ws') e r.rows }
