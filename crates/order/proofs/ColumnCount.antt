-- The number of columns of a degree, by the places of a graded order.
--   later_columns o n d i   the columns that the order has from place i on
--   columns_left o n d i    how many they are
--   columns_later          the one at place i is the first of them
--   columns_next           one place more
--   columns_end            none is left at the end
use mathlib.Core.Path.{◌≡◌, refl, sym, ap, ◌∙◌}
use mathlib.Core.Bool.{Bool, true, false, ◌&&◌}
use mathlib.Core.List.{List}
use Prim.Native.Nat.{ℕ, suc, ◌+◌, ◌<◌}
use native.Mathlib.Numerals.{add-one}
use native.Mathlib.Omega.{arith}
use lib.Dec.{leb, ltb}
use lib.ListN.{length, get_or, drop}
use lib.Seq.{drop-cons, drop-length}
use Rattle.cube.specs.NumberLists.{cons_if, select}
use Rattle.cube.specs.Cube.{size, weight}
use Rattle.cube.specs.Mask.{byte}
use Rattle.order.specs.Order.{Graded, is_column}

-- what a test keeps of a list with a number before it, or not
select_cons_if : (t : ℕ → Bool) (b : Bool) (x : ℕ) (xs : List ℕ) → select t (cons_if b x xs) ≡ cons_if (b && t x) x (select t xs)
unfolding select cons_if
select_cons_if t true x xs = refl
select_cons_if t false x xs = refl

-- the columns that the order has from place i on
abbrev pub later_columns : List ℕ → ℕ → ℕ → ℕ → List ℕ
later_columns o n d i = select (λ u. leb (weight u) d) (select (λ u. ltb u (size n)) (drop i o))

-- how many they are
abbrev pub columns_left : List ℕ → ℕ → ℕ → ℕ → ℕ
columns_left o n d i = length (later_columns o n d i)

-- a list is longer by one with a number before it
length_cons_if : (b : Bool) (x : ℕ) (xs : List ℕ) → length (cons_if b x xs) ≡ length xs + byte b
unfolding cons_if
length_cons_if true x xs = omega arith
length_cons_if false x xs = omega arith

module _ {o : List ℕ} (g : Graded o) (n d : ℕ) where
  -- the one at place i is the first of them
  pub columns_later : (i : ℕ) → i < 512 → let x : ℕ = get_or o i 0 in
      later_columns o n d i ≡ cons_if (is_column n d x) x (later_columns o n d (i + 1))
  unfolding select cons_if
  columns_later i h =
      ap (λ xs. select light (select small xs)) (drop-cons o i 0 (rw g.long h)) ∙ rw add-one (select_cons_if light (small (get_or o i 0)) (get_or o i 0) (select small (drop (suc i) o)))
    where
      small : ℕ → Bool
      small u = ltb u (size n)

      light : ℕ → Bool
      light u = leb (weight u) d

  -- one place more
  pub columns_next : (i : ℕ) → i < 512 → columns_left o n d i ≡ columns_left o n d (i + 1) + byte (is_column n d (get_or o i 0))
  columns_next i h = ap length (columns_later i h) ∙ length_cons_if (is_column n d (get_or o i 0)) (get_or o i 0) (later_columns o n d (i + 1))

  -- none is left at the end
  pub columns_end : (i : ℕ) → i ≡ 512 → columns_left o n d i ≡ 0
  unfolding select
  columns_end i e = ap (columns_left o n d) (e ∙ sym g.long) ∙ rw drop-length
