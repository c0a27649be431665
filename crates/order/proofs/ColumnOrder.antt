-- The columns of the built-in order stand by weight, and by number within a weight.
--   Ordered xs        each exponent of a list has a lower key than all later ones
--   columns_ordered   of two columns of a degree, the earlier precedes
use mathlib.Core.Logic.{inl, inr}
use mathlib.Core.Bool.{Bool}
use mathlib.Core.List.{List, [], ◌∷◌, Memᴰ}
use Prim.Native.Nat.{ℕ, zero, suc, ◌≤◌, ◌<◌}
use native.Mathlib.Decide.{dec_lt}
use native.Mathlib.Omega.{arith}
use lib.ListN.{length, get_or}
use lib.Pow.{pow_mono}
use Rattle.cube.specs.NumberLists.{select}
use Rattle.cube.specs.Cube.{weight}
use Rattle.cube.proofs.Listed.{member_place, place_member, select_cases, member_select}
use Rattle.order.specs.Order.{columns}
use Rattle.order.specs.BuiltIn.{graded, Precedes}
use Rattle.order.proofs.BuiltIn.{order_key, graded_rises, graded_is_graded}
use Rattle.order.proofs.DegreeColumns.{member_columns}

-- each exponent has a lower key than all later ones
abbrev Ordered : List ℕ → Type 0
Ordered [] = Unit {0}
Ordered (x ∷ xs) = ((u : ℕ) → Memᴰ u xs → order_key x < order_key u) × Ordered xs

-- keys that rise by place
ordered_places : (xs : List ℕ) → ((i j : ℕ) → i < j → j < length xs → order_key (get_or xs i 0) < order_key (get_or xs j 0)) → Ordered xs
ordered_places [] h = tt
ordered_places (x ∷ xs) h = (
  λ u m. let p = member_place m in rw (← p.2) (h 0 (suc p.0) (omega arith) (omega arith)),
  ordered_places xs (λ i j l m. h (suc i) (suc j) (omega arith) (omega arith)),
)

-- what a test keeps is ordered
ordered_select : (t : ℕ → Bool) (xs : List ℕ) → Ordered xs → Ordered (select t xs)
unfolding select
ordered_select t [] h = tt
ordered_select t (x ∷ xs) h =
    let rest : Ordered (select t xs) = ordered_select t xs h.1 in
    select_cases Ordered t x xs (λ e. (λ u m. h.0 u ((member_select t xs u).0 m).1, rest)) (λ e. rest)

-- by place again
ordered_at : (xs : List ℕ) → Ordered xs → (i j : ℕ) → i < j → j < length xs → order_key (get_or xs i 0) < order_key (get_or xs j 0)
ordered_at [] h i j l m = absurd (omega arith)
ordered_at (x ∷ xs) h i zero l m = absurd (omega arith)
ordered_at (x ∷ xs) h zero (suc j) l m = h.0 (get_or xs j 0) (place_member xs j (omega arith))
ordered_at (x ∷ xs) h (suc i) (suc j) l m = ordered_at xs h.1 i j (omega arith) (omega arith)

-- of two exponents, that of the lower key precedes
precedes : (u v : ℕ) → u < 512 → v < 512 → order_key u < order_key v → Precedes u v
unfolding order_key
precedes u v hu hv h = elim (dec_lt (weight u) (weight v)) [ yes l ↦ inl l | no l ↦ inr (omega arith, omega arith) ]

-- of two columns of a degree, the earlier precedes
pub columns_ordered : (n d i j : ℕ) → n ≤ 9 → i < j → j < length (columns graded n d) → Precedes (get_or (columns graded n d) i 0) (get_or (columns graded n d) j 0)
columns_ordered n d i j small l m = precedes _ _ (inside i (omega arith)) (inside j m) (ordered_at (columns graded n d) ordered i j l m)
  where
    ordered : Ordered (columns graded n d)
    ordered = ordered_select _ _ (ordered_select _ graded (ordered_places graded (λ i j l m. graded_rises i j l (omega (arith, graded_is_graded.long)))))

    inside : (i : ℕ) → i < length (columns graded n d) → get_or (columns graded n d) i 0 < 512
    inside i l = omega (arith, ((member_columns graded_is_graded n d _ small).0 (place_member (columns graded n d) i l)).0, pow_mono small)
