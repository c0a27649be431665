-- What Certify leaves in the workspace is the certificate of the definition.
--   outside_left          something is left of the row of a point outside the part just if it is no sum of rows of the part
--   certified_row         the sum for a point outside the part is that of the definition, continued by zeros
--   written_certificate   so the numbers written are the certificate
use mathlib.Core.Path.{◌≡◌, refl, sym, ap, ap₂, ◌∙◌}
use mathlib.Core.Logic.{◌↔◌}
use mathlib.Core.Bool.{Bool, true, false}
use mathlib.Core.List.{List, [], map, Memᴰ}
use Prim.Native.Nat.{ℕ, ◌+◌, ◌*◌, ◌/◌, ◌%◌, ◌≤◌, ◌<◌}
use native.Mathlib.Omega.{arith}
use lib.ListN.{length, take, drop}
use Rattle.cube.specs.NumberLists.{below, Inside}
use Rattle.cube.specs.Cube.{size}
use Rattle.cube.specs.Mask.{points}
use Rattle.cube.proofs.Masks.{member_from}
use Rattle.order.specs.Order.{Graded, columns}
use Rattle.gf2.specs.Vector.{Row, SumOf, add, total, chosen}
use Rattle.gf2.specs.Elimination.{is_zero, Reduced, reduce, Elimination}
use Rattle.gf2.specs.Cut.{zero_row, cut, padded}
use Rattle.gf2.specs.Steps.{row_of}
use Rattle.gf2.proofs.Each.{member_each, map_each}
use Rattle.gf2.proofs.Kept.{sum_reduced}
use Rattle.gf2.proofs.Padded.{zero_row_lem, total_padded, zero_padded, reduce_padded, reduce_fits, kept_fits}
use Rattle.packed.specs.Packed.{number}
use Rattle.packed.proofs.Packing.{number_padded}
use Rattle.filter.specs.Part.{part}
use Rattle.filter.specs.Outside.{is_outside}
use Rattle.filter.proofs.Outside.{outside_says}
use Rattle.point_rows.specs.Rows.{row, rows}
use Rattle.point_rows.specs.Workspace.{exponents, RowsFrom, stored}
use Rattle.point_rows.proofs.PointRow.{short_row}
use Rattle.point_rows.proofs.Stored.{stored_row}
use Rattle.matrix.specs.Matrix.{eliminated}
use Rattle.matrix.specs.Combination.{Combines}
use Rattle.matrix.proofs.Stored.{stored_elimination}
use Rattle.immunity.specs.Certificate.{sum_of, row_if, sum_if, number_at, certificate}
use Rattle.certify.specs.Sums.{sum_at, Sums, outside_row, written}

module _ {o : List ℕ} (g : Graded o) (n d : ℕ) (most : n ≤ 9) (low : d ≤ n) (t : List Row) (there : RowsFrom (exponents o n) n t 0) where
  module _ (t' : List Row) (qs : List ℕ) (k : ℕ) (ps : List ℕ) (inside : Inside (size n) qs) (h : Combines t t' (length (columns o n d)) qs k ps) where
    -- the kept rows
    combined_kept : take k t' ≡ map (padded 512) (eliminated o n d qs).kept
    combined_kept = sym h.kept ∙ ap (λ (x : Elimination). x.kept) (stored_elimination g n d most low t there qs inside)

    -- the row of a point outside the part is reduced as in the definition, continued by zeros
    outside_reduced : (a : ℕ) → a < size n → ¬ Memᴰ a qs → let m : Reduced = reduce (eliminated o n d qs).kept (row o n d a) in
        reduce (take k t') (stored t' (length (columns o n d)) a) ≡ record { left = padded 512 m.left; added = m.added }
    unfolding eliminated
    outside_reduced a small outside =
        ap₂ reduce combined_kept (ap (cut (length (columns o n d))) (h.stays a outside) ∙ stored_row g n d most low t there a small)
        ∙ reduce_padded 512 (eliminated o n d qs).kept (row o n d a) (kept_fits 512 (row o n d) (short_row g n d) qs) (short_row g n d a)

    -- something is left of it just if it is no sum of rows of the part
    pub outside_left : (a : ℕ) → a < size n → ¬ Memᴰ a qs
        → (is_zero (reduce (take k t') (stored t' (length (columns o n d)) a)).left ≡ true) ↔ SumOf (rows o n d qs) (row o n d a)
    unfolding eliminated
    outside_left a small outside =
        let m : Reduced = reduce (eliminated o n d qs).kept (row o n d a) in
        let short : length m.left ≤ 512 = reduce_fits 512 (eliminated o n d qs).kept (row o n d a) (kept_fits 512 (row o n d) (short_row g n d) qs) (short_row g n d a) in
        let same : is_zero (reduce (take k t') (stored t' (length (columns o n d)) a)).left ≡ is_zero m.left =
        ap (λ (r : Reduced). is_zero r.left) (outside_reduced a small outside) ∙ zero_padded 512 m.left short in
        let sum = sum_reduced (row o n d) qs (row o n d a) in
        (λ e. sum.0 (sym same ∙ e), λ s. same ∙ sum.1 s)

    -- the sum for a point outside the part is that of the definition, continued by zeros
    pub certified_row : (a : ℕ) → a < size n → ¬ Memᴰ a qs → sum_at t' (length (columns o n d)) k ps a ≡ padded 512 (sum_of o n d qs a)
    unfolding sum_at sum_of eliminated add
    certified_row a small outside =
        let e : Elimination = eliminated o n d qs in
        let m : Reduced = reduce e.kept (row o n d a) in
        let combined : map (row_of t') (take k ps) ≡ map (padded 512) e.combinations =
        h.combinations ∙ ap (λ (x : Elimination). map (padded 512) x.combinations) (stored_elimination g n d most low t there qs inside) in
        ap₂ (λ (r : Reduced) x. add zero_row (total (chosen r.added x))) (outside_reduced a small outside) combined
        ∙ ap (λ v. add v (total (chosen m.added (map (padded 512) e.combinations)))) zero_row_lem
        ∙ total_padded 512 [] m.added e.combinations

  -- the numbers written are the certificate
  pub written_certificate : (s f b : List ℕ) (side : ℕ) (t₂ t₃ : List Row) (k : ℕ) (ps : List ℕ) → points b ≡ part side s f → Inside (size n) (points s) → Inside (size n) (points b)
      → Combines t t₂ (length (columns o n d)) (points b) k ps → Sums t₂ t₃ (length (columns o n d)) k ps s b 512 → written s b t₃ ≡ certificate o n s f side d
  unfolding certificate sum_if outside_row row_if
  written_certificate s f b side t₂ t₃ k ps parts inside-set inside h sums =
      map_each (number_at (outside_row s b t₃)) (number_at (sum_if o n d (points s) (part side s f))) (below 4096)
      (member_each (λ i. number_at (outside_row s b t₃) i ≡ number_at (sum_if o n d (points s) (part side s f)) i) (below 4096)
      (λ i m. at i (omega (arith, ((member_from 0 4096 i).0 m).1)) (is_outside (points s) (points b) (i / 8)) refl))
    where
      listed : (a : ℕ) → is_outside (points s) (part side s f) a ≡ is_outside (points s) (points b) a
      listed a = ap (λ qs. is_outside (points s) qs a) (sym parts)

      row_there : (a : ℕ) → a < 512 → is_outside (points s) (points b) a ≡ true → row_of t₃ (512 + a) ≡ padded 512 (sum_of o n d (part side s f) a)
      row_there a l e =
          let (point, out) = (outside_says (points s) (points b) a).0 e in
          sums.sums a l e ∙ certified_row t₂ (points b) k ps inside h a (inside-set a point) out ∙ ap (λ qs. padded 512 (sum_of o n d qs a)) parts

      at : (i : ℕ) → i < 4096 → (z : Bool) → is_outside (points s) (points b) (i / 8) ≡ z → number_at (outside_row s b t₃) i ≡ number_at (sum_if o n d (points s) (part side s f)) i
      at i l true e =
          rw (listed (i / 8), e)
          (ap (λ v. number (take 64 (drop (64 * (i % 8)) v))) (row_there (i / 8) (omega arith) e)
          ∙ number_padded 64 (64 * (i % 8)) 512 (sum_of o n d (part side s f) (i / 8)) (omega arith))
      at i l false e = rw (listed (i / 8), e)
