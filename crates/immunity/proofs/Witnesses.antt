-- The witness of docs/SPECIFICATION.md, 'Witness': it is the one polynomial on new columns that separates the new point
-- from the part.
--   is_unique        at most one polynomial of n taps is a witness
--   is_annihilator   a witness is zero on the part and one somewhere on the set
--   is_same          only the coefficients matter
--   witness_is       where the ranks are unequal, witness_at is a witness
--   witness_zero     where they are equal, it is zero
use mathlib.Core.Path.{◌≡◌, refl, sym, ap, ◌∙◌}
use mathlib.Core.Bool.{Bool, true, false}
use mathlib.Core.List.{List, [], ◌∷◌, ◌++◌, map, Memᴰ}
use Prim.Native.Nat.{ℕ, ◌≤◌, ◌<◌}
use native.Mathlib.Decide.{dec_lt}
use native.Mathlib.Omega.{arith}
use lib.ListN.{length, get_or, length-map, get_or-eq_default}
use Rattle.cube.specs.NumberLists.{lists}
use Rattle.cube.specs.Cube.{size, within, weight}
use Rattle.order.specs.Order.{Graded, columns}
use Rattle.cube.proofs.Listed.{member_place}
use Rattle.order.proofs.DegreeColumns.{member_columns}
use Rattle.gf2.specs.Vector.{Row, entry, Zero, Same, Each, chosen}
use Rattle.gf2.specs.Points.{Rising}
use Rattle.gf2.specs.Solve.{witness}
use Rattle.gf2.specs.Columns.{column}
use Rattle.gf2.proofs.Bits.{not_one}
use Rattle.gf2.proofs.Each.{each_map, each_at, each_of_map, member_each, map_each}
use Rattle.gf2.proofs.Sums.{sum_zero}
use Rattle.gf2.proofs.Columns.{entry_map}
use Rattle.gf2.proofs.Witness.{witness_separates, witness_columns, witness_unique}
use Rattle.polynomial.specs.Polynomial.{Polynomial, value}
use Rattle.polynomial.proofs.Value.{value_same}
use Rattle.point_rows.specs.Rows.{row, rows}
use Rattle.matrix.specs.Matrix.{rank_of, choice}
use Rattle.matrix.proofs.Product.{value_dot, zero_orthogonal, choice_up_to, choice_value, choice_at}
use Rattle.immunity.specs.Witness.{NewPoint, OnNewColumns, IsWitness, witness_row, witness_at}
use Rattle.immunity.specs.Annihilator.{Annihilator}
use Rattle.immunity.proofs.NewPoint.{new_point_is, new_point_found, new_point_none, new_point_unique}
use Rattle.immunity.proofs.Equal.{separates_annihilates}

-- a row of values has none past the list
entry_past : (f : ℕ → Bool) (xs : List ℕ) (c : ℕ) → length xs ≤ c → entry (map f xs) c ≡ false
entry_past f xs c l = get_or-eq_default (map f xs) false {n = c} (omega (arith, length-map xs f))

-- so a column past the columns is zero
zero_column : (o : List ℕ) (n d : ℕ) (qs : List ℕ) (c : ℕ) → length (columns o n d) ≤ c → Zero (column c (rows o n d qs))
zero_column o n d qs c l =
    let each : Each (λ r. entry r c ≡ false) (rows o n d qs) = (each_of_map (λ r. entry r c ≡ false) (row o n d) qs).1
    (member_each (λ a. entry (row o n d a) c ≡ false) qs (λ a m. entry_past (λ u. within u a) (columns o n d) c l)) in
    each_at (λ b. b ≡ false) refl (column c (rows o n d qs)) ((each_of_map (λ b. b ≡ false) (λ r. entry r c) (rows o n d qs)).1 each)

module _ {o : List ℕ} (g : Graded o) {n : ℕ} (small : n ≤ 9) (d : ℕ) (ss ps : List ℕ) where
  -- a polynomial on new columns that is zero on the part and one at the new point chooses the columns of gf2's witness
  only_choice : (p : ℕ) → NewPoint o n d ss ps p → (q : Polynomial) → OnNewColumns o n d (ps ++ (p ∷ [])) q
      → Each (λ a. value n q a ≡ false) ps → value n q p ≡ true → (u : ℕ) → u < size n → q u ≡ choice o n d (witness (row o n d) ps p) u
  only_choice p point q on z one u l = elim (dec_lt d (weight u)) [
    | yes h ↦ not_one (q u) (λ e. absurd (omega (arith, on.up_to u l e))) ∙ sym (not_one (choice o n d x u) (λ e. absurd (omega (arith, choice_up_to g small d x u l e))))
    | no h ↦ at (member_place ((member_columns g n d u small).1 (l, omega arith)))
  ]
    where
      x : Row
      x = witness (row o n d) ps p

      same : Same (map q (columns o n d)) x
      same = witness_unique (row o n d) ps p point.new (map q (columns o n d)) on.new
          (zero_orthogonal g small d q on.up_to ps z, sym (value_dot g small d q p on.up_to) ∙ one)

      at : (c : ℕ) × (c < length (columns o n d)) × (get_or (columns o n d) c 0 ≡ u) → q u ≡ choice o n d x u
      at (c, i, e) = rw (← e) (sym (entry_map q (columns o n d) c i) ∙ same c ∙ sym (choice_at g small d x c i))

  -- at most one polynomial of n taps is a witness
  pub is_unique : (v w : Polynomial) → IsWitness o n d ss ps v → IsWitness o n d ss ps w → (u : ℕ) → u < size n → v u ≡ w u
  is_unique v w x y u l =
      let e : x.point ≡ y.point = new_point_unique x.is_new_point y.is_new_point in
      only_choice x.point x.is_new_point v x.on_new x.zero x.one u l
      ∙ ap (λ p. choice o n d (witness (row o n d) ps p) u) e
      ∙ sym (only_choice y.point y.is_new_point w y.on_new y.zero y.one u l)

  -- a witness is zero on the part and one somewhere on the set
  pub is_annihilator : {w : Polynomial} → IsWitness o n d ss ps w → Annihilator n w ps ss
  is_annihilator x = record { zero = x.zero; point = x.point; inside = x.is_new_point.inside; one = x.one }

  -- only the coefficients matter
  pub is_same : (v w : Polynomial) → ((u : ℕ) → u < size n → v u ≡ w u) → IsWitness o n d ss ps v → IsWitness o n d ss ps w
  is_same v w h x = record {
    point = x.point;
    is_new_point = x.is_new_point;
    on_new = record { up_to = λ u l e. x.on_new.up_to u l (h u l ∙ e); new = rw (← columns_same) x.on_new.new };
    zero = each_map (λ a e. sym (value_same n v w a h) ∙ e) ps x.zero;
    one = sym (value_same n v w x.point h) ∙ x.one;
  }
    where
      columns_same : map v (columns o n d) ≡ map w (columns o n d)
      columns_same = map_each v w (columns o n d) (member_each (λ u. v u ≡ w u) (columns o n d) (λ u m. h u ((member_columns g n d u small).0 m).0))

  module _ (p : ℕ) (point : NewPoint o n d ss ps p) where
    -- the columns of the witness
    abbrev x : Row
    x = witness (row o n d) ps p

    -- they are where its polynomial is one
    columns_same : Same (map (choice o n d x) (columns o n d)) x
    columns_same c = elim (dec_lt c (length (columns o n d))) [
      | yes l ↦ entry_map (choice o n d x) (columns o n d) c l ∙ choice_at g small d x c l
      | no l ↦ entry_past (choice o n d x) (columns o n d) c (omega arith) ∙ sym (not_one (entry x c) (λ e.
          witness_columns (row o n d) ps p point.new c e (sum_zero (zero_column o n d (ps ++ (p ∷ [])) c (omega arith)))))
    ]

    -- the choice of these columns is a witness
    choice_is : IsWitness o n d ss ps (choice o n d x)
    choice_is =
        let c : Annihilator n (choice o n d x) ps ss = separates_annihilates g small d ss ps p point.inside x (witness_separates (row o n d) ps p point.new) in
        record {
          point = p;
          is_new_point = point;
          on_new = record {
            up_to = choice_up_to g small d x;
            new = λ c e. witness_columns (row o n d) ps p point.new c (sym (columns_same c) ∙ e);
          };
          zero = c.zero;
          one = choice_value g small d x p ∙ (witness_separates (row o n d) ps p point.new).1;
        }

  module _ (rising : Rising ss) (among : Each (λ a. Memᴰ a ss) ps) where
    -- where the ranks are unequal, witness_at is a witness
    pub witness_is : ¬ (rank_of o n d ss ≡ rank_of o n d ps) → IsWitness o n d ss ps (witness_at o n d ss ps)
    unfolding witness_at witness_row
    witness_is h =
        let (p, is) = new_point_found o n d ps ss rising among h in
        rw is (choice_is p (new_point_is o n d ps ss rising p is))

    -- where they are equal, it is zero
    pub witness_zero : rank_of o n d ss ≡ rank_of o n d ps → (u : ℕ) → witness_at o n d ss ps u ≡ false
    unfolding witness_at witness_row choice chosen lists
    witness_zero h u = rw (new_point_none o n d ps ss rising among h)
