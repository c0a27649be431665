-- A row is a sum of rows of a list, or some row separates it from them.
--   orthogonal_sum     what is even with each row is even with their sums
--   separated_no_sum   no sum of the rows is separated from them
--   zero_or_odd        a row is zero, or odd with some row
--   separate           each row is a sum of rows of the list, or is separated from them
--   decide_sum         whether a row is a sum is decided
use mathlib.Core.Path.{◌≡◌, refl, sym, ◌∙◌}
use mathlib.Core.Bool.{Bool, true, false, false≢true}
use mathlib.Core.List.{List, [], ◌∷◌}
use mathlib.Core.Logic.{◌⊎◌, inl, inr}
use Rattle.gf2.specs.Vector.{Row, add, dot, Zero, SumOf, Orthogonal, Separates}
use Rattle.gf2.proofs.Bits.{false_xor, xor_false, xor_self, xor_comm}
use Rattle.gf2.proofs.Each.{each_map₂}
use Rattle.gf2.proofs.Dot.{zero_cons, dot_add, add_dot, zero_linear, dot_linear}
use Rattle.gf2.proofs.Sums.{linear_sum, sum_zero, sum_later, sum_with}

-- what is even with each row is even with their sums
pub orthogonal_sum : (x : Row) {rs : List Row} {v : Row} → Orthogonal x rs → SumOf rs v → dot x v ≡ false
orthogonal_sum x = linear_sum (dot_linear x) zero_linear

-- no sum of the rows is separated from them
pub separated_no_sum : (x : Row) {rs : List Row} {v : Row} → Separates rs v x → ¬ SumOf rs v
separated_no_sum x h s = false≢true (sym (orthogonal_sum x h.0 s) ∙ h.1)

-- a row is zero, or odd with some row
pub zero_or_odd : (v : Row) → Zero v ⊎ ((x : Row) × (dot x v ≡ true))
unfolding dot
zero_or_odd [] = inl (λ c. refl)
zero_or_odd (true ∷ v) = inr (true ∷ [], xor_false true)
zero_or_odd (false ∷ v) = go (zero_or_odd v)
  where
    go : Zero v ⊎ ((x : Row) × (dot x v ≡ true)) → Zero (false ∷ v) ⊎ ((x : Row) × (dot x (false ∷ v) ≡ true))
    go (inl z) = inl (zero_cons v z)
    go (inr e) = inr (false ∷ e.0, rw false_xor e.1)

-- from what separates v and what separates v + r, something that separates v and is even with r too
separate_cons : (rs : List Row) (r v x y : Row) → Separates rs v x → Separates rs (add v r) y → (z : Row) × Separates (r ∷ rs) v z
separate_cons rs r v x y h k = go (dot x r) (dot y r) refl refl
  where
    go : (a b : Bool) → dot x r ≡ a → dot y r ≡ b → (z : Row) × Separates (r ∷ rs) v z
    go false b p q = (x, ((p, h.0), h.1))
    go true false p q = (y, ((q, k.0), rw (dot_add, q, xor_false) at k.1))
    go true true p q = (
      add x y,
      (
        (rw (add_dot, p, q, xor_self), each_map₂ (λ t i j. rw (add_dot, i, j, xor_self)) rs h.0 k.0),
        simp (add_dot, h.1) (simp (dot_add, q, xor_comm) at k.1),
      ),
    )

-- each row is a sum of rows of the list, or is separated from them
pub separate : (rs : List Row) (v : Row) → SumOf rs v ⊎ ((x : Row) × Separates rs v x)
separate [] v = elim (zero_or_odd v) [
  | inl z ↦ inl (sum_zero z)
  | inr e ↦ inr (e.0, (tt, e.1))
]
separate (r ∷ rs) v = go (separate rs v) (separate rs (add v r))
  where
    go : SumOf rs v ⊎ ((x : Row) × Separates rs v x) → SumOf rs (add v r) ⊎ ((x : Row) × Separates rs (add v r) x)
        → SumOf (r ∷ rs) v ⊎ ((x : Row) × Separates (r ∷ rs) v x)
    go (inl s) t = inl (sum_later s)
    go (inr x) (inl s) = inl (sum_with s)
    go (inr x) (inr y) = inr (separate_cons rs r v x.0 y.0 x.1 y.1)

-- whether a row is a sum is decided
pub decide_sum : (rs : List Row) (v : Row) → Dec (SumOf rs v)
decide_sum rs v = elim (separate rs v) [
  | inl s ↦ yes s
  | inr x ↦ no (separated_no_sum x.0 x.1)
]
