-- The columns of a graded order.
--   columns_all        at degree n the columns are all exponents of n taps
--   member_columns     the columns are the exponents of n taps up to the degree
--   columns_distinct   each stands once
--   length_columns     there are at most 512
--   count_columns      as many as exponents of n taps weigh at most d
--   columns_prefix     the columns of a degree are the first columns of a higher degree
use mathlib.Core.Path.{◌≡◌, refl, sym, ap, ◌∙◌}
use mathlib.Core.Logic.{◌↔◌}
use mathlib.Core.Bool.{Bool, true, false}
use mathlib.Core.List.{List, [], ◌∷◌, Memᴰ}
use Prim.Native.Nat.{ℕ, suc, ◌≤◌, ◌<◌}
use native.Mathlib.Omega.{arith}
use lib.Count.{ones-le}
use lib.Dec.{ltb, leb}
use lib.ListN.{length, get_or, take}
use lib.Pow.{pow_mono}
use borrow.Author.Tests.{ltb-true, leb-true, leb-false, lt-ltb, le-leb, lt-leb}
use Rattle.cube.specs.NumberLists.{cons_if, select, lists, Inside}
use Rattle.cube.specs.Cube.{size, weight}
use Rattle.cube.proofs.Count.{count_below, count_same}
use Rattle.cube.proofs.Listed.{lists_member, not_listed, member_place, select_cases, member_select, select_select, select_all, length_select, Distinct, distinct_places, distinct_select, count_listed, member_all}
use Rattle.order.specs.Order.{Graded, columns}

-- weights never fall along the list
abbrev Sorted : List ℕ → Type 0
Sorted [] = Unit {0}
Sorted (x ∷ xs) = ((u : ℕ) → Memᴰ u xs → weight x ≤ weight u) × Sorted xs

-- weights that never fall by place never fall
sorted_places : (xs : List ℕ) → ((i j : ℕ) → i ≤ j → j < length xs → weight (get_or xs i 0) ≤ weight (get_or xs j 0)) → Sorted xs
sorted_places [] h = tt
sorted_places (x ∷ xs) h = (
  λ u m. let p = member_place m in rw (← p.2) (h 0 (suc p.0) (omega arith) (omega arith)),
  sorted_places xs (λ i j l m. h (suc i) (suc j) (omega arith) (omega arith)),
)

-- what a test keeps is sorted
sorted_select : (t : ℕ → Bool) (xs : List ℕ) → Sorted xs → Sorted (select t xs)
unfolding select
sorted_select t [] h = tt
sorted_select t (x ∷ xs) h =
    let rest : Sorted (select t xs) = sorted_select t xs h.1 in
    select_cases Sorted t x xs (λ e. (λ u m. h.0 u ((member_select t xs u).0 m).1, rest)) (λ e. rest)

-- a test that none passes keeps nothing
select_none : (t : ℕ → Bool) (xs : List ℕ) → ((u : ℕ) → Memᴰ u xs → t u ≡ false) → select t xs ≡ []
unfolding select cons_if
select_none t [] h = refl
select_none t (x ∷ xs) h = rw (h x (Memᴰ.head refl)) (select_none t xs (λ u m. h u (Memᴰ.tail m)))

-- the light exponents of a sorted list stand in front
light_front : (d : ℕ) (xs : List ℕ) → Sorted xs → let light : List ℕ = select (λ u. leb (weight u) d) xs in light ≡ take (length light) xs
unfolding select cons_if
light_front d [] h = refl
light_front d (x ∷ xs) h = go (leb (weight x) d) refl (light_front d xs h.1)
  where
    light : List ℕ
    light = select (λ u. leb (weight u) d) xs

    go : (b : Bool) → leb (weight x) d ≡ b → light ≡ take (length light) xs → cons_if b x light ≡ take (length (cons_if b x light)) (x ∷ xs)
    go true e later = ap (λ l. x ∷ l) later
    go false e later = rw (select_none (λ u. leb (weight u) d) xs (λ u m. lt-leb (weight u) d (omega (arith, leb-false (weight x) d e, h.0 u m))))

-- at degree n the columns are all exponents of n taps
pub columns_all : (o : List ℕ) (n : ℕ) → columns o n n ≡ select (λ u. ltb u (size n)) o
columns_all o n = select_all _ _ (λ u m. le-leb (weight u) n (ones-le n u (ltb-true u (size n) ((member_select _ o u).0 m).0)))

module _ {o : List ℕ} (g : Graded o) where
  -- an exponent stands once in the order
  order_distinct : Distinct o
  order_distinct = distinct_places o (rw g.long g.once)

  -- the exponents of the order are below 512
  order_inside : Inside 512 o
  order_inside u m = let p = member_place m in rw (← p.2) (g.inside p.0 (rw (← g.long) p.1))

  -- the columns are the exponents of n taps up to the degree
  pub member_columns : (n d u : ℕ) → n ≤ 9 → Memᴰ u (columns o n d) ↔ ((u < size n) × (weight u ≤ d))
  member_columns n d u s = (
    λ m. let a = (member_select _ _ u).0 m in (ltb-true u (size n) ((member_select _ o u).0 a.1).0, leb-true (weight u) d a.0),
    λ p. (member_select _ _ u).1 (le-leb (weight u) d p.1, (member_select _ o u).1 (lt-ltb u (size n) p.0, all p.0)),
  )
    where
      all : u < size n → Memᴰ u o
      all l = member_all 512 o g.long order_distinct order_inside u (omega (arith, pow_mono s))

  -- each stands once
  pub columns_distinct : (n d : ℕ) → Distinct (columns o n d)
  columns_distinct n d = distinct_select _ _ (distinct_select _ o order_distinct)

  -- there are at most 512
  pub length_columns : (n d : ℕ) → length (columns o n d) ≤ 512
  length_columns n d =
      omega (arith, length_select (λ u. leb (weight u) d) (select (λ u. ltb u (size n)) o), length_select (λ u. ltb u (size n)) o, g.long)

  -- as many as exponents of n taps weigh at most d
  pub count_columns : (n d : ℕ) → n ≤ 9 → length (columns o n d) ≡ count_below (size n) (λ u. leb (weight u) d)
  count_columns n d small =
      sym (count_listed (size n) (columns o n d) (columns_distinct n d) (λ u m. ((member_columns n d u small).0 m).0))
      ∙ count_same (size n) (lists (columns o n d)) (λ u. leb (weight u) d) (λ u l. go u l (leb (weight u) d) refl)
    where
      go : (u : ℕ) → u < size n → (b : Bool) → leb (weight u) d ≡ b → lists (columns o n d) u ≡ b
      go u l true e = (lists_member (columns o n d) u).1 ((member_columns n d u small).1 (l, leb-true (weight u) d e))
      go u l false e = not_listed (columns o n d) u (λ m. omega (arith, ((member_columns n d u small).0 m).1, leb-false (weight u) d e))

  -- the columns of a degree are the first columns of a higher degree
  pub columns_prefix : (n d e : ℕ) → d ≤ e → columns o n d ≡ take (length (columns o n d)) (columns o n e)
  columns_prefix n d e l =
      let sorted : Sorted (columns o n e) = sorted_select _ _ (sorted_select _ o (sorted_places o (rw g.long g.rising))) in
      rw (← select_select (λ u. leb (weight u) d) (λ u. leb (weight u) e) _ (λ u h. le-leb (weight u) e (omega (arith, leb-true (weight u) d h))))
      (light_front d (columns o n e) sorted)
