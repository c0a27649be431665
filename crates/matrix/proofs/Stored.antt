-- Elimination of the rows in the places of points is elimination of the rows of the points.
--   stored_elimination   the kept rows are those of the definition, continued by zeros, and all else is the same
--   kept_rows            the kept rows in the workspace
--   kept_count           how many there are
--   made_additions       the additions are those of the definition
use mathlib.Core.Path.{◌≡◌, sym, ap, ◌∙◌}
use mathlib.Core.List.{List, map}
use Prim.Native.Nat.{ℕ, ◌≤◌}
use native.Mathlib.Omega.{arith}
use lib.ListN.{length, take, length-map}
use lib.Seq.{length-take-le}
use Rattle.cube.specs.NumberLists.{Inside}
use Rattle.cube.specs.Cube.{size}
use Rattle.order.specs.Order.{Graded, columns}
use Rattle.gf2.specs.Vector.{Row, Each}
use Rattle.gf2.specs.Elimination.{Elimination, nothing, eliminate}
use Rattle.gf2.specs.Cut.{padded}
use Rattle.gf2.proofs.Each.{member_each}
use Rattle.gf2.proofs.Padded.{widened, eliminate_padded, take_points_same}
use Rattle.point_rows.specs.Rows.{row}
use Rattle.point_rows.specs.Workspace.{exponents, RowsFrom, stored}
use Rattle.point_rows.proofs.PointRow.{wide_row, short_row}
use Rattle.point_rows.proofs.Stored.{stored_row}
use Rattle.matrix.specs.Matrix.{eliminated, rank_of}
use Rattle.matrix.specs.Workspace.{Eliminates}

module _ {o : List ℕ} (g : Graded o) (n d : ℕ) (s : n ≤ 9) (low : d ≤ n) (t : List Row) (there : RowsFrom (exponents o n) n t 0)
    (ps : List ℕ) (inside : Inside (size n) ps)
  where
    -- the kept rows are those of the definition, continued by zeros, and all else is the same
    pub stored_elimination : eliminate (stored t (length (columns o n d))) ps ≡ widened 512 (eliminated o n d ps)
    unfolding eliminated
    stored_elimination =
        let place : ℕ → Row = stored t (length (columns o n d)) in
        let same : Each (λ a. place a ≡ wide_row o n d a) ps = member_each (λ a. place a ≡ wide_row o n d a) ps (λ a i. stored_row g n d s low t there a (inside a i)) in
        take_points_same place (wide_row o n d) nothing ps same ∙ eliminate_padded 512 (row o n d) (short_row g n d) ps

    module _ (t' : List Row) (k m : ℕ) (h : Eliminates t t' (length (columns o n d)) ps k m) where
      -- the kept rows in the workspace
      pub kept_rows : take k t' ≡ map (padded 512) (eliminated o n d ps).kept
      kept_rows = sym h.kept ∙ ap (λ (x : Elimination). x.kept) stored_elimination

      -- how many there are
      pub kept_count : length t' ≡ 1024 → k ≤ 512 → k ≡ rank_of o n d ps
      kept_count l small = sym (length-take-le k t' (omega arith)) ∙ ap length kept_rows ∙ length-map (eliminated o n d ps).kept (padded 512)

      -- the additions are those of the definition
      pub made_additions : m ≡ (eliminated o n d ps).additions
      made_additions = sym h.additions ∙ ap (λ (x : Elimination). x.additions) stored_elimination
