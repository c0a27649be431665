-- Equal ranks: just where no polynomial up to the degree is zero on the part and one somewhere on the set.
--   equal_sums              equal ranks mean that the row of each point of the set is a sum of rows of the part
--   separates_annihilates   a row that separates the row of a point from the rows of the part is an annihilator
--   equal_none              and that no polynomial up to the degree is zero on the part and one somewhere on the set
use mathlib.Core.Path.{◌≡◌, sym, ◌∙◌}
use mathlib.Core.Bool.{false, false≢true}
use mathlib.Core.List.{List, map, Memᴰ}
use mathlib.Core.Logic.{◌↔◌, ◌⊎◌, inl, inr}
use Prim.Native.Nat.{ℕ, ◌≤◌}
use Rattle.order.specs.Order.{Graded, columns}
use Rattle.gf2.specs.Vector.{Row, dot, Each, SumOf, Separates}
use Rattle.gf2.proofs.Each.{each_map, each_member, member_each, each_of_map}
use Rattle.gf2.proofs.Duality.{orthogonal_sum, separate}
use Rattle.gf2.proofs.Kept.{equal_kept}
use Rattle.polynomial.specs.Polynomial.{Polynomial, UpTo}
use Rattle.point_rows.specs.Rows.{row, rows}
use Rattle.matrix.specs.Matrix.{eliminated, rank_of, choice}
use Rattle.matrix.proofs.Product.{value_dot, zero_orthogonal, choice_up_to, choice_value}
use Rattle.immunity.specs.Annihilator.{Annihilator}

-- equal ranks mean that the row of each point of the set is a sum of rows of the part
pub equal_sums : (o : List ℕ) (n d : ℕ) (ss ps : List ℕ) → Each (λ a. Memᴰ a ss) ps
    → (rank_of o n d ss ≡ rank_of o n d ps) ↔ Each (λ a. SumOf (rows o n d ps) (row o n d a)) ss
unfolding eliminated
equal_sums o n d ss ps among = equal_kept (row o n d) ps ss among

module _ {o : List ℕ} (g : Graded o) {n : ℕ} (small : n ≤ 9) (d : ℕ) where
  -- a row that separates the row of a point from the rows of the part is an annihilator
  pub separates_annihilates : (ss ps : List ℕ) (a : ℕ) → Memᴰ a ss → (x : Row) → Separates (rows o n d ps) (row o n d a) x
      → Annihilator n (choice o n d x) ps ss
  separates_annihilates ss ps a m x (even, odd) = record {
    zero = each_map (λ b e. choice_value g small d x b ∙ e) ps ((each_of_map (λ v. dot x v ≡ false) (row o n d) ps).0 even);
    point = a;
    inside = m;
    one = choice_value g small d x a ∙ odd;
  }

  module _ (ss ps : List ℕ) (among : Each (λ a. Memᴰ a ss) ps) where
    -- where the rows of the set are sums, what is zero on the part is zero on the set
    none_annihilates : Each (λ a. SumOf (rows o n d ps) (row o n d a)) ss → (p : Polynomial) → UpTo n d p → ¬ Annihilator n p ps ss
    none_annihilates sums p u c =
        let there : SumOf (rows o n d ps) (row o n d c.point) = each_member (λ a. SumOf (rows o n d ps) (row o n d a)) sums c.inside in
        false≢true (sym (orthogonal_sum (map p (columns o n d)) (zero_orthogonal g small d p u ps c.zero) there) ∙ sym (value_dot g small d p c.point u) ∙ c.one)

    -- where there is no annihilator, the rows of the set are sums: else a row would separate one
    none_sums : ((p : Polynomial) → UpTo n d p → ¬ Annihilator n p ps ss) → Each (λ a. SumOf (rows o n d ps) (row o n d a)) ss
    none_sums h = member_each (λ a. SumOf (rows o n d ps) (row o n d a)) ss (λ a m. go a m (separate (rows o n d ps) (row o n d a)))
      where
        go : (a : ℕ) → Memᴰ a ss → SumOf (rows o n d ps) (row o n d a) ⊎ ((x : Row) × Separates (rows o n d ps) (row o n d a) x)
            → SumOf (rows o n d ps) (row o n d a)
        go a m (inl s) = s
        go a m (inr x) = absurd (h (choice o n d x.0) (choice_up_to g small d x.0) (separates_annihilates ss ps a m x.0 x.1))

    -- equal ranks mean that no polynomial up to the degree is zero on the part and one somewhere on the set
    pub equal_none : (rank_of o n d ss ≡ rank_of o n d ps) ↔ ((p : Polynomial) → UpTo n d p → ¬ Annihilator n p ps ss)
    equal_none =
        let e = equal_sums o n d ss ps among in
        (λ q. none_annihilates (e.0 q), λ h. e.1 (none_sums h))
