-- The rows in the places of points are the rows of the points.
--   filled_rows   after filling, the row of each point is in its place
--   stays_rows    and stays there while the second half of the workspace does
--   stored_row    the first columns in the place of a point are its row at a degree, continued by zeros
use mathlib.Core.Path.{◌≡◌, sym, ap, ◌∙◌}
use mathlib.Core.List.{List, []}
use Prim.Native.Nat.{ℕ, ◌≤◌, ◌<◌}
use native.Mathlib.Omega.{arith}
use lib.ListN.{length, get_or, drop}
use lib.Pow.{pow_mono}
use lib.Seq.{get_or-drop}
use Rattle.cube.specs.Cube.{size}
use Rattle.order.specs.Order.{Graded, columns}
use Rattle.gf2.specs.Vector.{Row}
use Rattle.gf2.specs.Cut.{cut}
use Rattle.point_rows.specs.Workspace.{exponents, filled, RowsFrom, stored}
use Rattle.point_rows.proofs.PointRow.{wide_row, first_columns}
use Rattle.point_rows.proofs.Filling.{filled_row}

-- after filling, the row of each point is in its place
pub filled_rows : (us : List ℕ) (n : ℕ) → n ≤ 9 → (t : List Row) → length t ≡ 1024 → RowsFrom us n (filled us n t) 0
filled_rows us n s t l a low inside = filled_row us n s t l a inside

-- and stays there while the second half of the workspace does
pub stays_rows : (us : List ℕ) (n : ℕ) (t t' : List Row) → drop 512 t' ≡ drop 512 t → RowsFrom us n t 0 → RowsFrom us n t' 0
stays_rows us n t t' e h a low inside = sym (get_or-drop 512 t' a []) ∙ ap (λ x. get_or x a []) e ∙ get_or-drop 512 t a [] ∙ h a low inside

-- the first columns in the place of a point are its row at degree d, continued by zeros
pub stored_row : {o : List ℕ} → Graded o → (n d : ℕ) → n ≤ 9 → d ≤ n → (t : List Row) → RowsFrom (exponents o n) n t 0
    → (a : ℕ) → a < size n → stored t (length (columns o n d)) a ≡ wide_row o n d a
stored_row {o} g n d s low t there a inside =
    ap (cut (length (columns o n d))) (there a (omega arith) inside) ∙ first_columns g n d a low (omega (arith, pow_mono s))
