-- What the rows of a certificate name is right just if sums over supersets vanish.
--   numbers_named    the eight numbers of a point hold what the certificate names for it
--   row_checked      the test of a row by sums over supersets is that of the definition
use mathlib.Core.Path.{◌≡◌, refl, sym, ap, ap₂, ◌∙◌, subst}
use mathlib.Core.Logic.{◌↔◌}
use mathlib.Core.Bool.{Bool, true, false, xor, not, ◌&&◌, cond, false≢true}
use mathlib.Core.List.{List, [], ◌∷◌, map}
use Prim.Native.Nat.{ℕ, ◌+◌, ◌*◌, ◌/◌, ◌%◌, ◌^◌, ◌≤◌, ◌<◌}
use native.Mathlib.Omega.{arith}
use lib.Dec.{eqb, ltb, leb}
use lib.ListN.{length, length-map, get_or}
use lib.Pow.{pow_mono}
use borrow.Author.Tests.{ltb-true, leb-true, lt-ltb, le-leb, not-false}
use Rattle.cube.specs.NumberLists.{below, cons_if, select, lists, Inside}
use Rattle.cube.specs.Cube.{size, within, weight}
use Rattle.cube.specs.Mask.{member, points}
use Rattle.cube.proofs.Listed.{and_both, same_test, lists_member, member_select, Distinct, distinct_select}
use Rattle.cube.proofs.Masks.{length_from, value_at, values_told, member_points, points_distinct}
use Rattle.order.specs.Order.{Graded, is_column}
use Rattle.gf2.specs.Vector.{Row, entry, add, total, unit, Zero, OnlyAt, chosen}
use Rattle.gf2.specs.Elimination.{is_zero}
use Rattle.gf2.specs.Cut.{common}
use Rattle.gf2.specs.Points.{support}
use Rattle.gf2.proofs.Bits.{not_one, xor_and, xor_comm}
use Rattle.gf2.proofs.Common.{one_below, common_zero}
use Rattle.gf2.proofs.Dot.{entry_add, entry_unit_is}
use Rattle.gf2.proofs.Reducing.{is_zero_lem}
use Rattle.packed.specs.Packed.{odd, unpack, words}
use Rattle.packed.proofs.Rows.{get_or_words, length_words}
use Rattle.packed.proofs.Words.{length_unpack, entry_word}
use Rattle.polynomial.proofs.Sums.{sum_same, sum_add, sum_one, sum_over, sum_listed}
use Rattle.filter.specs.Outside.{is_outside}
use Rattle.point_rows.specs.Rows.{row, rows}
use Rattle.matrix.proofs.AnyOrder.{zero_total}
use Rattle.superset_sums.specs.SupersetSums.{superset_sum, superset_sums}
use Rattle.immunity.specs.Certificate.{bit_of, named}
use Rattle.immunity.specs.CertificateTest.{only_at, expresses, right_row}
use Rattle.immunity.proofs.CertificateTest.{only_says}
use Rattle.checker.specs.CheckedRows.{others_row, columns_row, names_sum, checked_row}

-- the eight numbers of a point hold what the certificate names for it
pub numbers_named : (c : List ℕ) (a : ℕ) → length c ≡ 4096 → a < 512 → unpack (words c a) ≡ named c a
unfolding bit_of
numbers_named c a long l = values_told (bit_of c a) 512 false (unpack (words c a)) (length_unpack (words c a)) (λ q h.
    let place : a * 8 + q / 64 ≡ 8 * a + q / 64 = omega arith in
    entry_word (words c a) q (length_words c a (omega arith))
    ∙ ap (λ x. odd (x / 2 ^ (q % 64))) (get_or_words c a (q / 64) (omega arith) ∙ ap (λ i. get_or c i 0) place))

-- choosing by a test is selecting
chosen_select : (t : ℕ → Bool) (xs : List ℕ) → chosen (map t xs) xs ≡ select t xs
unfolding chosen select cons_if
chosen_select t [] = refl
chosen_select t (x ∷ xs) = go (t x) (chosen_select t xs)
  where
    go : (b : Bool) → chosen (map t xs) xs ≡ select t xs → chosen (b ∷ map t xs) (x ∷ xs) ≡ cons_if b x (select t xs)
    go true e = ap (λ ys. x ∷ ys) e
    go false e = e

module _ (b : List ℕ) (v : Row) (wide : length v ≡ 512) where
  -- none but points of the mask is named
  only_checked : is_zero (common v (others_row b)) ≡ only_at (points b) v
  only_checked = same_test _ _ (
    λ e. (only_says (points b) v).1 (λ q one. (member_points b q).1 (not-false (member b q) (sym (other q (subst (λ k. q < k) wide (one_below v q one))) ∙ (common_zero v (others_row b)).0 e q one))),
    λ e. (common_zero v (others_row b)).1 (λ q one. other q (subst (λ k. q < k) wide (one_below v q one)) ∙ ap not ((member_points b q).0 ((only_says (points b) v).0 e q one))),
  )
    where
      other : (q : ℕ) → q < 512 → entry (others_row b) q ≡ not (member b q)
      other q l = value_at (λ p. not (member b p)) 512 q false l

  module _ (only : OnlyAt (points b) v) (small : length b ≡ 512) where
    -- the points named
    abbrev qs : List ℕ
    qs = support v (points b)

    -- they are the ones of the row
    named_listed : (q : ℕ) → lists qs q ≡ entry v q
    named_listed q = same_test _ _ (
      λ e. ((member_select (entry v) (points b) q).0 (rw (chosen_select (entry v) (points b)) at ((lists_member qs q).0 e))).0,
      λ one. (lists_member qs q).1 (rw (chosen_select (entry v) (points b)) ((member_select (entry v) (points b) q).1 (one, only q one))),
    )

    -- no point is named twice
    named_distinct : Distinct qs
    named_distinct = rw (chosen_select (entry v) (points b))
        (distinct_select (entry v) (points b) (points_distinct b))

    -- each is below 512
    named_below : Inside 512 qs
    named_below q m = subst (λ k. q < k) wide (one_below v q (sym (named_listed q) ∙ (lists_member qs q).1 m))

    -- a superset sum of the row with the point a is the sum of a monomial over a and the points named
    sum_over_lem : (a : ℕ) → a < 512 → (u : ℕ) → superset_sum 9 (entry (add v (unit a))) u ≡ sum_over (a ∷ qs) (within u)
    unfolding superset_sum sum_over
    sum_over_lem a l u =
        let t : ℕ → Bool = within u in
        sum_same 512 (λ p. entry (add v (unit a)) p && t p) (λ p. xor (lists qs p && t p) (eqb a p && t p))
        (λ p h. ap (λ z. z && t p) (entry_add v (unit a) p ∙ ap₂ xor (sym (named_listed p)) (entry_unit_is a p)) ∙ xor_and (lists qs p) (eqb a p) (t p))
        ∙ sum_add 512 (λ p. lists qs p && t p) (λ p. eqb a p && t p)
        ∙ ap₂ xor (sym (sum_listed 512 qs t named_distinct named_below)) (sum_one 512 a t l)
        ∙ xor_comm _ _

    -- the superset sums vanish at the columns just if the rows of the points named sum to the row of a
    sums_checked : {o : List ℕ} → Graded o → {n : ℕ} → n ≤ 9 → (d a : ℕ) → a < 512
        → is_zero (common (superset_sums (add v (unit a))) (columns_row n d)) ≡ is_zero (add (row o n d a) (total (map (row o n d) qs)))
    unfolding superset_sums total
    sums_checked {o} g {n} most d a l = same_test _ _ (
      λ e. (is_zero_lem (total (rows o n d (a ∷ qs)))).1 (monomials.1 (λ u i w.
          sym (sum_over_lem a l u) ∙ not_one _ (λ one. false≢true (sym ((common_zero sums (columns_row n d)).0 e u (at_sum u (near u i) ∙ one)) ∙ column u i w)))),
      λ e. (common_zero sums (columns_row n d)).1 (λ u one. not_one _ (λ column-one.
          let l : u < 512 = below_width u one in
          let (inside, light) = and_both (ltb u (size n)) (leb (weight u) d) (sym (at_column u l) ∙ column-one) in
          false≢true (sym (monomials.0 ((is_zero_lem (total (rows o n d (a ∷ qs)))).0 e) u (ltb-true u (size n) inside) (leb-true (weight u) d light)) ∙ sym (sum_over_lem a near_a u) ∙ sym (at_sum u l) ∙ one))),
    )
      where
        near_a : a < 512
        near_a = l

        sums : Row
        sums = superset_sums (add v (unit a))

        monomials : Zero (total (rows o n d (a ∷ qs))) ↔ ((u : ℕ) → u < size n → weight u ≤ d → sum_over (a ∷ qs) (within u) ≡ false)
        monomials = zero_total g most d (a ∷ qs)

        near : (u : ℕ) → u < size n → u < 512
        near u i = omega (arith, pow_mono most)

        at_sum : (u : ℕ) → u < 512 → entry sums u ≡ superset_sum 9 (entry (add v (unit a))) u
        at_sum u i = value_at (superset_sum 9 (entry (add v (unit a)))) 512 u false i

        at_column : (u : ℕ) → u < 512 → entry (columns_row n d) u ≡ is_column n d u
        at_column u i = value_at (is_column n d) 512 u false i

        column : (u : ℕ) → u < size n → weight u ≤ d → entry (columns_row n d) u ≡ true
        column u i w = at_column u (near u i) ∙ rw (lt-ltb u (size n) i, le-leb (weight u) d w)

        below_width : (u : ℕ) → entry sums u ≡ true → u < 512
        below_width u one = omega (arith, one_below sums u one, length-map (below 512) (superset_sum 9 (entry (add v (unit a)))), length_from 0 512)

-- two conjunctions whose first bits agree, and the second where the first is one
and_same : (x x' y y' : Bool) → x ≡ x' → (x' ≡ true → y ≡ y') → (x && y) ≡ (x' && y')
and_same x true y y' e h = rw (e, h refl)
and_same x false y y' e h = rw e

-- the test of a row by sums over supersets is that of the definition
pub row_checked : {o : List ℕ} → Graded o → {n : ℕ} → n ≤ 9 → (d : ℕ) (s b c : List ℕ) → length b ≡ 512 → length c ≡ 4096 → (a : ℕ) → a < 512
    → checked_row s b (others_row b) (columns_row n d) (unpack (words c a)) a ≡ right_row o n d (points s) (points b) c a
unfolding checked_row right_row names_sum expresses
row_checked {o} g {n} most d s b c small long a l =
    ap (λ v. cond (is_outside (points s) (points b) a) (names_sum v (others_row b) (columns_row n d) a) (is_zero v)) (numbers_named c a long l)
    ∙ ap (λ z. cond (is_outside (points s) (points b) a) z (is_zero (named c a)))
    (and_same _ _ _ _ (only_checked b (named c a) wide) (λ e. sums_checked b (named c a) wide ((only_says (points b) (named c a)).0 e) small g most d a l))
  where
    wide : length (named c a) ≡ 512
    wide = length-map (below 512) (bit_of c a) ∙ length_from 0 512
