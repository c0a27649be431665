-- A set on which no filter reaches the mark: the points 0 to 16 of five taps.
--   seventeen          their mask
--   seventeen_filter   as set and as table it is a filter
--   seventeen_mark     its mark is 2: computed
--   degree_most        each filter on the set has a degree of at most 1: x1 is zero on the part without 16, and one at 16
use mathlib.Core.Path.{◌≡◌, refl, sym, ap, ◌∙◌}
use mathlib.Core.Bool.{Bool, true, false, xor}
use mathlib.Core.List.{List, Memᴰ}
use Prim.Native.Nat.{ℕ, ◌≤◌, ◌<◌}
use native.Mathlib.Omega.{arith}
use lib.Count.{ones, ones_in}
use lib.Dec.{eqb, ltb}
use lib.ListN.{length, get_or}
use borrow.Author.Tests.{eqb-true, eqb-false, ne_eqb, ltb-true}
use Rattle.std.specs.Prelude.{Some}
use Rattle.cube.specs.NumberLists.{up_from, cons_if, select}
use Rattle.cube.specs.Cube.{size, within}
use Rattle.cube.specs.Mask.{well_formed, points, mask}
use Rattle.cube.proofs.Bits.{within_self, within_smaller}
use Rattle.cube.proofs.Listed.{member_select}
use Rattle.cube.proofs.MaskOf.{length_mask, mask_well_formed}
use Rattle.cube.proofs.Masks.{member_points, mask_member, points_inside}
use Rattle.order.specs.BuiltIn.{graded}
use Rattle.gf2.specs.Vector.{add}
use Rattle.gf2.specs.Elimination.{pivot, is_zero, count, add_if, reduce, keep_unless, take_point, take_points}
use Rattle.gf2.proofs.Each.{member_each}
use Rattle.polynomial.specs.Polynomial.{value, UpTo}
use Rattle.polynomial.proofs.Value.{monomial_value}
use Rattle.filter.specs.Filter.{Filter}
use Rattle.filter.specs.Part.{part}
use Rattle.matrix.specs.Matrix.{eliminated}
use Rattle.immunity.specs.Annihilator.{Annihilator}
use Rattle.immunity.specs.Mark.{mark_of}
use Rattle.immunity.proofs.Reported.{FirstDiffers}

-- the mask of the points 0 to 16
abbrev pub seventeen : List ℕ
seventeen = mask (λ u. ltb u 17)

-- as set and as table it is a filter
pub seventeen_filter : Filter 5 seventeen seventeen
seventeen_filter =
    let long : length seventeen ≡ 512 = length_mask (λ u. ltb u 17) in
    let formed : well_formed 5 seventeen ≡ true = mask_well_formed 5 (λ u. ltb u 17) (λ u e. omega (arith, ltb-true u 17 e)) in
    record { set_long = long; table_long = long; tapped = refl; set_formed = formed; table_formed = formed }

-- its mark is 2: computed
pub seventeen_mark : mark_of graded 5 seventeen ≡ Some 2
unfolding mark_of eliminated take_points take_point keep_unless reduce add_if count is_zero pivot add xor graded within ones ones_in up_from select cons_if
seventeen_mark = refl

-- its points are below 17
seventeen_points : (a : ℕ) → Memᴰ a (points seventeen) → a < 17
seventeen_points a m =
    let inside : a < size 5 = points_inside 5 seventeen seventeen_filter.set_formed a m in
    ltb-true a 17 (sym (mask_member (λ u. ltb u 17) a (omega arith)) ∙ (member_points seventeen a).0 m)

-- 16 is one of them
last_point : Memᴰ 16 (points seventeen)
last_point = (member_points seventeen 16).1 (mask_member (λ u. ltb u 17) 16 (omega arith))

module _ (f : List ℕ) where
  -- x1, the monomial of 16, is an annihilator of a side whose part is without 16
  first_variable : (side : ℕ) → eqb (get_or f 16 0) side ≡ false → Annihilator 5 (eqb 16) (part side seventeen f) (points seventeen)
  first_variable side out = record {
    zero = member_each (λ a. value 5 (eqb 16) a ≡ false) (part side seventeen f) (λ a m.
        let (is, among) = (member_select _ (points seventeen) a).0 m in
        let other : ¬ (a ≡ 16) = λ q. eqb-false _ _ out (ap (λ b. get_or f b 0) (sym q) ∙ eqb-true (get_or f a 0) side is) in
        monomial_value 5 16 a (omega arith) ∙ within_smaller 16 a (omega (arith, seventeen_points a among)));
    point = 16;
    inside = last_point;
    one = monomial_value 5 16 16 (omega arith) ∙ within_self 16;
  }

  -- it is up to degree 1
  first_variable_low : UpTo 5 1 (eqb 16)
  unfolding ones ones_in
  first_variable_low u l e = rw (← eqb-true 16 u e) (omega arith)

  -- so each filter on the set has a degree of at most 1
  pub degree_most : (k : ℕ) → FirstDiffers graded 5 seventeen f k → k ≤ 1
  degree_most k r = go (eqb (get_or f 16 0) 1) refl
    where
      go : (b : Bool) → eqb (get_or f 16 0) 1 ≡ b → k ≤ 1
      go false e = r.least 1 1 (eqb 16) (omega arith) (first_variable 1 e) first_variable_low
      go true e = r.least 0 1 (eqb 16) (omega arith) (first_variable 0 (ne_eqb (get_or f 16 0) 0 (λ q. omega (arith, eqb-true (get_or f 16 0) 1 e)))) first_variable_low
