-- Values of polynomials up to a degree as parities of rows.
--   value_dot         the value of a polynomial up to a degree is the parity of its coefficients with the point's row
--   zero_orthogonal   a polynomial up to a degree that is zero on points is even with their rows
--   choice_up_to      a choice of columns is a polynomial up to the degree
--   choice_value      its value at a point is the parity of the choice with the point's row
--   choice_at         it chooses the exponent of a column just if the row has a one there
use mathlib.Core.Path.{◌≡◌, refl, sym, ◌∙◌}
use mathlib.Core.Bool.{Bool, true, false, ◌&&◌, and-false}
use mathlib.Core.List.{List, [], ◌∷◌, map, Memᴰ}
use Prim.Native.Nat.{ℕ, zero, suc, ◌≤◌, ◌<◌}
use native.Mathlib.Omega.{arith}
use lib.ListN.{length, get_or}
use borrow.Author.Tests.{eq-eqb, ne_eqb}
use Rattle.cube.specs.NumberLists.{lists}
use Rattle.cube.specs.Cube.{size, within}
use Rattle.order.specs.Order.{Graded, columns}
use Rattle.cube.proofs.Listed.{Distinct, lists_member, not_listed, place_member}
use Rattle.order.proofs.DegreeColumns.{member_columns, columns_distinct}
use Rattle.gf2.specs.Vector.{Row, Choice, entry, dot, chosen, Each, Orthogonal}
use Rattle.gf2.proofs.Bits.{false_xor}
use Rattle.gf2.proofs.Each.{each_map, each_member, each_of_map, chosen_among}
use Rattle.polynomial.specs.Polynomial.{Polynomial, value, UpTo}
use Rattle.polynomial.proofs.Sums.{sum_over, sum_same, sum_listed}
use Rattle.point_rows.specs.Rows.{row, rows}
use Rattle.matrix.specs.Matrix.{choice}

-- the parity of two rows of tests is the sum of their product
dot_map : (p r : ℕ → Bool) (cs : List ℕ) → dot (map p cs) (map r cs) ≡ sum_over cs (λ u. p u && r u)
unfolding dot sum_over
dot_map p r [] = refl
dot_map p r (c ∷ cs) = rw (dot_map p r cs)

-- the parity of a choice and a row of a test is the test's sum over what is chosen
dot_chosen : (x : Choice) (r : ℕ → Bool) (cs : List ℕ) → dot x (map r cs) ≡ sum_over (chosen x cs) r
unfolding dot sum_over chosen
dot_chosen [] r cs = refl
dot_chosen (b ∷ x) r [] = refl
dot_chosen (true ∷ x) r (c ∷ cs) = rw (dot_chosen x r cs)
dot_chosen (false ∷ x) r (c ∷ cs) = rw (dot_chosen x r cs, false_xor)

-- a chosen member is a member
member_chosen : (x : Choice) (cs : List ℕ) (u : ℕ) → Memᴰ u (chosen x cs) → Memᴰ u cs
member_chosen x cs u = each_member (λ v. Memᴰ v cs) (chosen_among x cs)

-- what is chosen of a list with no number twice has none twice
distinct_chosen : (x : Choice) (cs : List ℕ) → Distinct cs → Distinct (chosen x cs)
unfolding chosen
distinct_chosen [] cs h = tt
distinct_chosen (b ∷ x) [] h = tt
distinct_chosen (true ∷ x) (c ∷ cs) h = (λ m. h.0 (member_chosen x cs c m), distinct_chosen x cs h.1)
distinct_chosen (false ∷ x) (c ∷ cs) h = distinct_chosen x cs h.1

-- the number at a place is listed among the chosen just if the choice is one there
chosen_at : (x : Choice) (cs : List ℕ) → Distinct cs → (c : ℕ) → c < length cs → lists (chosen x cs) (get_or cs c 0) ≡ entry x c
unfolding chosen lists
chosen_at [] cs h c l = refl
chosen_at (b ∷ x) [] h c l = absurd (omega arith)
chosen_at (true ∷ x) (u ∷ cs) h zero l = rw (eq-eqb u u refl)
chosen_at (false ∷ x) (u ∷ cs) h zero l = not_listed (chosen x cs) u (λ m. h.0 (member_chosen x cs u m))
chosen_at (true ∷ x) (u ∷ cs) h (suc c) l =
    rw (ne_eqb u (get_or cs c 0) (λ e. h.0 (rw e (place_member cs c (omega arith))))) (chosen_at x cs h.1 c (omega arith))
chosen_at (false ∷ x) (u ∷ cs) h (suc c) l = chosen_at x cs h.1 c (omega arith)

module _ {o : List ℕ} (g : Graded o) {n : ℕ} (small : n ≤ 9) (d : ℕ) where
  -- the columns are exponents of n taps
  inside : (u : ℕ) → Memᴰ u (columns o n d) → u < size n
  inside u m = ((member_columns g n d u small).0 m).0

  -- the value of a polynomial up to a degree is the parity of its coefficients with the point's row
  pub value_dot : (p : Polynomial) (a : ℕ) → UpTo n d p → value n p a ≡ dot (map p (columns o n d)) (row o n d a)
  unfolding value
  value_dot p a h =
      rw (dot_map p (λ u. within u a) (columns o n d), sum_listed (size n) (columns o n d) (λ u. p u && within u a) (columns_distinct g n d) inside)
      (sum_same (size n) _ _ (λ u l. go u l (p u) refl))
    where
      go : (u : ℕ) → u < size n → (b : Bool) → p u ≡ b → (b && within u a) ≡ (lists (columns o n d) u && (b && within u a))
      go u l true e = rw ((lists_member (columns o n d) u).1 ((member_columns g n d u small).1 (l, h u l e)))
      go u l false e = rw and-false

  -- a polynomial up to a degree that is zero on points is even with their rows
  pub zero_orthogonal : (p : Polynomial) → UpTo n d p → (ps : List ℕ) → Each (λ a. value n p a ≡ false) ps
      → Orthogonal (map p (columns o n d)) (rows o n d ps)
  zero_orthogonal p u ps z =
      (each_of_map (λ v. dot (map p (columns o n d)) v ≡ false) (row o n d) ps).1 (each_map (λ a e. sym (value_dot p a u) ∙ e) ps z)

  -- a choice of columns is a polynomial up to the degree
  pub choice_up_to : (x : Row) → UpTo n d (choice o n d x)
  unfolding choice
  choice_up_to x u l h = ((member_columns g n d u small).0 (member_chosen x (columns o n d) u ((lists_member _ u).0 h))).1

  -- its value at a point is the parity of the choice with the point's row
  pub choice_value : (x : Row) (a : ℕ) → value n (choice o n d x) a ≡ dot x (row o n d a)
  unfolding choice value
  choice_value x a =
      rw (dot_chosen x (λ u. within u a) (columns o n d))
      (sym (sum_listed (size n) (chosen x (columns o n d)) (λ u. within u a)
      (distinct_chosen x (columns o n d) (columns_distinct g n d)) (λ u m. inside u (member_chosen x (columns o n d) u m))))

  -- it chooses the exponent of a column just if the row has a one there
  pub choice_at : (x : Row) (c : ℕ) → c < length (columns o n d) → choice o n d x (get_or (columns o n d) c 0) ≡ entry x c
  unfolding choice
  choice_at x c l = chosen_at x (columns o n d) (columns_distinct g n d) c l
