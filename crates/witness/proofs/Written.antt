-- The witness that is written from the workspace is the witness of the definition.
--   KeptOf ..       the kept rows of the part, and the rows of the points in their places, after its elimination
--   kept_of         the elimination gives them
--   none_written    zeros are the witness where there is no new point
--   written_full    where the kept rows are 512 there is no new point: zeros are the witness
--   written_none    where no row is kept there is none either
--   written_new     where a row is kept, the columns of the solution are the witness
use mathlib.Core.Path.{◌≡◌, refl, sym, ap, ap₂, ◌∙◌, subst}
use mathlib.Core.Bool.{true, false, not}
use mathlib.Core.List.{List, [], ◌∷◌, ◌++◌, map}
use Rattle.std.specs.Prelude.{Option, None, Some}
use Rattle.std.specs.List.{find}
use Prim.Native.Nat.{ℕ, ◌≤◌, ◌<◌}
use native.Mathlib.Omega.{arith}
use lib.ListN.{length, take, length-append, length-map}
use lib.Seq.{length-take-le, take-take, take_at, get_or-take, get_or_at}
use borrow.Author.Tests.{not-true}
use Rattle.cube.specs.NumberLists.{Inside}
use Rattle.cube.specs.Cube.{size}
use Rattle.cube.specs.Mask.{with_ones, mask}
use Rattle.cube.proofs.MaskOf.{with_ones_mask}
use Rattle.order.specs.Order.{Graded, columns}
use Rattle.gf2.specs.Vector.{Row, Same, Each, chosen}
use Rattle.gf2.specs.Elimination.{Reduced, is_zero, reduce}
use Rattle.gf2.specs.Cut.{padded}
use Rattle.gf2.specs.Steps.{row_of}
use Rattle.gf2.specs.Solve.{solve_last, witness}
use Rattle.gf2.proofs.Each.{member_each, each_map, each_append}
use Rattle.gf2.proofs.Chosen.{chosen_same}
use Rattle.gf2.proofs.Reducing.{entry_pivot, reduce_echelon, echelon_independent}
use Rattle.gf2.proofs.Exchange.{columns_most}
use Rattle.gf2.proofs.Kept.{kept_echelon}
use Rattle.gf2.proofs.Padded.{Fits, zero_padded, reduce_padded, reduce_fits, kept_fits}
use Rattle.gf2.proofs.BackSubstitution.{solve_last_padded}
use Rattle.packed.specs.Packed.{zeros}
use Rattle.point_rows.specs.Rows.{row}
use Rattle.point_rows.specs.Workspace.{exponents, RowsFrom, stored}
use Rattle.point_rows.proofs.PointRow.{short_row}
use Rattle.point_rows.proofs.Stored.{stays_rows, stored_row}
use Rattle.matrix.specs.Matrix.{eliminated, choice}
use Rattle.matrix.specs.Workspace.{Eliminates}
use Rattle.matrix.proofs.Stored.{kept_rows, kept_count}
use Rattle.immunity.specs.Witness.{is_new, new_point, witness_row, witness_at}
use Rattle.immunity.proofs.First.{first_passes, first_same}
use Rattle.witness.specs.NewRow.{is_left, kept_with, FindsNew}

-- k rows of t are kept of the part ps, and c columns in the place of a point are its row at degree d, all continued by zeros
pub record KeptOf (o : List ℕ) (n d c : ℕ) (ps : List ℕ) (t : List Row) (k : ℕ) : Type 0 where
  pub kept : take k t ≡ map (padded 512) (eliminated o n d ps).kept
  pub count : k ≡ length (eliminated o n d ps).kept
  pub small : k ≤ 512
  pub places : (a : ℕ) → a < size n → stored t c a ≡ padded 512 (row o n d a)

-- the part is eliminated
pub kept_of : {o : List ℕ} → Graded o → (n d : ℕ) → n ≤ 9 → d ≤ n → (ps : List ℕ) → Inside (size n) ps → (t : List Row) → RowsFrom (exponents o n) n t 0
    → (c : ℕ) → c ≡ length (columns o n d) → (t' : List Row) → length t' ≡ 1024 → (k m : ℕ) → k ≤ 512 → Eliminates t t' c ps k m → KeptOf o n d c ps t' k
kept_of {o} g n d s low ps inside t there c width t' long k m small h =
    let h' : Eliminates t t' (length (columns o n d)) ps k m = subst (λ w. Eliminates t t' w ps k m) width h in
    record {
      kept = kept_rows g n d s low t there ps inside t' k m h';
      count = kept_count g n d s low t there ps inside t' k m h' long small;
      small = small;
      places = λ a l. ap (λ w. stored t' w a) width ∙ stored_row g n d s low t' (stays_rows (exponents o n) n t t' h.stays there) a l;
    }

module _ {o : List ℕ} (g : Graded o) (n d : ℕ) (ss ps : List ℕ) where
  -- the rows kept of the part
  abbrev kept : List Row
  kept = (eliminated o n d ps).kept

  -- what they leave of the row of a point
  abbrev left : ℕ → Row
  left a = (reduce kept (row o n d a)).left

  -- they have at most 512 columns
  fits : Each (Fits 512) kept
  unfolding eliminated
  fits = kept_fits 512 (row o n d) (short_row g n d) ps

  -- and so does what they leave
  left_short : (a : ℕ) → length (left a) ≤ 512
  left_short a = reduce_fits 512 kept (row o n d a) fits (short_row g n d a)

  -- something is left of the row of a new point
  left_some : (a : ℕ) → is_new o n d ps a ≡ true → is_zero (left a) ≡ false
  unfolding is_new
  left_some a e = not-true _ e

  -- where something is left there are fewer than 512
  new_room : (a : ℕ) → is_new o n d ps a ≡ true → length kept < 512
  unfolding is_new eliminated
  new_room a e =
      let more : List Row = kept ++ (left a ∷ []) in
      let few : length more ≤ 512 =
      columns_most 512 more (echelon_independent more (reduce_echelon kept (kept_echelon (row o n d) ps) (row o n d a) (left_some a e)))
      (each_append (λ r. length r ≤ 512) kept (left a ∷ []) (each_map (λ r f. f.0) kept fits) (left_short a, tt)) in
      omega (arith, few, length-append kept (left a ∷ []))

  -- zeros are the witness where there is no new point
  pub none_written : new_point o n d ss ps ≡ None → zeros 512 ≡ mask (witness_at o n d ss ps)
  unfolding zeros witness_at witness_row choice chosen with_ones
  none_written e = rw e (with_ones_mask [])

  -- the columns of a solution are the witness where there is one
  some_written : (p : ℕ) → new_point o n d ss ps ≡ Some p → (x : Row) → Same x (witness (row o n d) ps p)
      → with_ones (chosen x (columns o n d)) (zeros 512) ≡ mask (witness_at o n d ss ps)
  unfolding zeros witness_at witness_row choice
  some_written p e x s = rw e (ap (λ us. with_ones us (zeros 512)) (chosen_same x (witness (row o n d) ps p) (columns o n d) s) ∙ with_ones_mask _)

  module _ (c : ℕ) (in-set : Inside (size n) ss) (t : List Row) (k : ℕ) (h : KeptOf o n d c ps t k) where
    -- the columns of a point's row in its place
    abbrev place : ℕ → Row
    place = stored t c

    -- how many rows are kept
    kept_long : length (take k t) ≡ k
    kept_long = ap length h.kept ∙ length-map kept (padded 512) ∙ sym h.count

    -- what the kept rows leave of it is what is left of the row, continued by zeros
    place_left : (a : ℕ) → a < size n → (reduce (take k t) (place a)).left ≡ padded 512 (left a)
    place_left a l =
        ap (λ (r : Reduced). r.left) (ap₂ reduce h.kept (h.places a l) ∙ reduce_padded 512 kept (row o n d a) fits (short_row g n d a))

    -- the first new point is the same
    first_new : find (is_left (take k t) place) ss ≡ new_point o n d ss ps
    unfolding new_point is_new
    first_new = first_same (is_left (take k t) place) (is_new o n d ps) ss (member_each (λ a. is_left (take k t) place a ≡ is_new o n d ps a) ss
        (λ a i. ap (λ v. not (is_zero v)) (place_left a (in-set a i)) ∙ ap not (zero_padded 512 (left a) (left_short a))))

    -- where the kept rows are 512 there is no new point
    pub written_full : 512 ≤ k → zeros 512 ≡ mask (witness_at o n d ss ps)
    unfolding new_point
    written_full full = none_written (go (new_point o n d ss ps) refl)
      where
        go : (r : Option ℕ) → new_point o n d ss ps ≡ r → r ≡ None
        go None e = refl
        go (Some p) e = absurd (omega (arith, new_room p (first_passes (is_new o n d ps) ss p e).1, h.count))

    module _ (t' : List Row) (k' : ℕ) (f : FindsNew t t' k k' c ss) (long : length t' ≡ 1024) where
      -- the kept rows, where the first new point is known
      kept_known : (r : Option ℕ) → new_point o n d ss ps ≡ r → take k' t' ≡ kept_with (take k t) place r
      kept_known r e = f.kept ∙ ap (kept_with (take k t) place) (first_new ∙ e)

      -- how many there are
      count_known : (r : Option ℕ) → new_point o n d ss ps ≡ r → k' ≡ length (kept_with (take k t) place r)
      count_known r e = sym (length-take-le k' t' (omega (arith, f.grows, h.small))) ∙ ap length (kept_known r e)

      -- where no row is kept there is no new point
      pub written_none : k' ≤ k → zeros 512 ≡ mask (witness_at o n d ss ps)
      written_none few = none_written (go (new_point o n d ss ps) refl)
        where
          go : (r : Option ℕ) → new_point o n d ss ps ≡ r → r ≡ None
          go None e = refl
          go (Some p) e = absurd (omega (arith, count_known (Some p) e, length-append (take k t) ((reduce (take k t) (place p)).left ∷ []), kept_long))

      -- what is kept where there is a new point: the rows of the part, and what they leave of its row
      kept_ends : (p : ℕ) → new_point o n d ss ps ≡ Some p → k < k' → (take k t' ≡ take k t) × (row_of t' k ≡ (reduce (take k t) (place p)).left)
      kept_ends p e more =
          let all : take k' t' ≡ take k t ++ ((reduce (take k t) (place p)).left ∷ []) = kept_known (Some p) e in (
            sym (take-take k k' t' (omega arith)) ∙ ap (take k) all ∙ take_at (take k t) _ k kept_long,
            sym (get_or-take k' t' k [] more) ∙ ap (λ l. row_of l k) all ∙ get_or_at (take k t) _ [] [] k kept_long,
          )

      -- where one is, the columns of the solution are the witness
      pub written_new : k < k' → (x : Row) → Same x (solve_last (take k t') (row_of t' k)) → with_ones (chosen x (columns o n d)) (zeros 512) ≡ mask (witness_at o n d ss ps)
      unfolding new_point eliminated
      written_new more x same = go (new_point o n d ss ps) refl
        where
          go : (r : Option ℕ) → new_point o n d ss ps ≡ r → with_ones (chosen x (columns o n d)) (zeros 512) ≡ mask (witness_at o n d ss ps)
          go None e = absurd (omega (arith, count_known None e, kept_long))
          go (Some p) e =
              let new = first_passes (is_new o n d ps) ss p e in
              let one : (reduce (take k t) (place p)).left ≡ padded 512 (left p) = place_left p (in-set p new.0) in
              let ends = kept_ends p e more in
              some_written p e x (λ c. same c ∙ rw (ends.0, ends.1, one, h.kept)
              (solve_last_padded 512 kept (left p) fits (left_short p, entry_pivot (left p) (left_some p new.1)) c))
