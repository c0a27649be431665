-- The witness: where the row of a point is no sum of the rows of others, one row on new columns separates it from them.
--   witness_separates   the witness is even with the rows of the points ps, and odd with the row of a
--   witness_columns     the witness is one only at columns of these rows that are no sum of the columns before them
--   witness_unique      the witness is the only such row
use mathlib.Core.Path.{◌≡◌, sym, ◌∙◌}
use mathlib.Core.Bool.{false}
use mathlib.Core.List.{List, [], ◌∷◌, ◌++◌, map}
use Prim.Native.Nat.{ℕ}
use Rattle.gf2.specs.Vector.{Row, dot, Same, OnlyAt, SumOf, Orthogonal, Separates}
use Rattle.gf2.specs.Elimination.{pivot, is_zero, Echelon, reduce, keep_unless, take_point, eliminate}
use Rattle.gf2.specs.Solve.{witness}
use Rattle.gf2.specs.Columns.{NewColumns}
use Rattle.gf2.proofs.Bits.{xor_equal, not_one}
use Rattle.gf2.proofs.Each.{each_map}
use Rattle.gf2.proofs.Dot.{dot_add}
use Rattle.gf2.proofs.Duality.{orthogonal_sum}
use Rattle.gf2.proofs.Reducing.{reduce_sum, reduce_echelon}
use Rattle.gf2.proofs.Kept.{eliminate_snoc, kept_echelon, rows_sums, kept_sums, sum_reduced}
use Rattle.gf2.proofs.BackSubstitution.{solve_last_separates, solve_last_pivots, solve_last_unique}
use Rattle.gf2.proofs.Columns.{pivot_new}

module _ (row : ℕ → Row) (ps : List ℕ) (a : ℕ) (new : ¬ SumOf (map row ps) (row a)) where
  -- what elimination keeps of the points
  abbrev kept : List Row
  kept = (eliminate row ps).kept

  -- what it leaves of a
  abbrev rest : Row
  rest = (reduce kept (row a)).left

  -- something is left
  some : is_zero rest ≡ false
  some = not_one (is_zero rest) (λ z. new ((sum_reduced row ps (row a)).0 z))

  -- it is kept
  kept_rest : (eliminate row (ps ++ (a ∷ []))).kept ≡ kept ++ (rest ∷ [])
  unfolding take_point keep_unless
  kept_rest = rw (eliminate_snoc row, some)

  -- the list stays echelon
  echelon : Echelon (kept ++ (rest ∷ []))
  echelon = reduce_echelon kept (kept_echelon row ps) (row a) some

  -- with what is even with the kept rows, what is left of a has the parity of its row
  same_dot : (x : Row) → Orthogonal x kept → dot x (row a) ≡ dot x rest
  same_dot x h = xor_equal _ _ (sym (dot_add x (row a) rest) ∙ orthogonal_sum x h (reduce_sum kept (row a)))

  -- the witness is even with the rows of the points ps, and odd with the row of a
  pub witness_separates : Separates (map row ps) (row a) (witness row ps a)
  witness_separates =
      let x : Row = witness row ps a in
      let (even, odd) = solve_last_separates kept rest echelon in
      (each_map (λ v. orthogonal_sum x even) (map row ps) (rows_sums row ps), same_dot x even ∙ odd)

  -- the witness is one only at columns of these rows that are no sum of the columns before them
  pub witness_columns : NewColumns (map row (ps ++ (a ∷ []))) (witness row ps a)
  witness_columns c e = (pivot_new row (ps ++ (a ∷ [])) c).0 (rw kept_rest (solve_last_pivots kept rest echelon c e))

  -- the witness is the only such row
  pub witness_unique : (y : Row) → NewColumns (map row (ps ++ (a ∷ []))) y → Separates (map row ps) (row a) y → Same y (witness row ps a)
  witness_unique y columns (even, odd) =
      let even-kept : Orthogonal y kept = each_map (λ v. orthogonal_sum y even) kept (kept_sums row ps) in
      let pivots : OnlyAt (map pivot (kept ++ (rest ∷ []))) y = λ c e. rw (← kept_rest) ((pivot_new row (ps ++ (a ∷ [])) c).1 (columns c e)) in
      solve_last_unique kept rest echelon y pivots (even-kept, sym (same_dot y even-kept) ∙ odd)
