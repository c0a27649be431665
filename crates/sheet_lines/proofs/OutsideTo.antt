-- The points of the set outside the part of a side, up to a bound.
--   outside_to side s f a   those below a
--   outside_yes            the next number is such a point
--   outside_part           it is a point of the part
--   outside_set            it is no point of the set
use mathlib.Core.Path.{◌≡◌, ap, ap₂, ◌∙◌}
use mathlib.Core.Bool.{Bool, true, false, not, ◌&&◌}
use mathlib.Core.List.{List, [], ◌∷◌, ◌++◌, append-nil}
use Prim.Native.Nat.{ℕ, ◌+◌}
use lib.Dec.{eqb}
use lib.ListN.{get_or}
use Rattle.cube.specs.NumberLists.{below, cons_if, select}
use Rattle.cube.specs.Mask.{member, points}
use Rattle.cube.proofs.Listed.{select_snoc}
use Rattle.cube.proofs.Masks.{select_yes, select_no}
use Rattle.filter.specs.Part.{part}
use Rattle.filter.specs.Outside.{is_outside}
use Rattle.filter.proofs.Outside.{outside_side}

module _ (side : ℕ) (s f : List ℕ) where
  -- a point is outside the part
  abbrev out : ℕ → Bool
  out a = is_outside (points s) (part side s f) a

  -- those below a
  abbrev pub outside_to : ℕ → List ℕ
  outside_to a = select (is_outside (points s) (part side s f)) (select (member s) (below a))

  -- the next number is a point of the set: it is outside the part or in it
  next_point : (a : ℕ) → member s a ≡ true → outside_to (a + 1) ≡ outside_to a ++ cons_if (out a) a []
  next_point a e = ap (select out) (select_yes (member s) a e) ∙ select_snoc out (select (member s) (below a)) a

  -- what the bytes of the set and the table say of it
  out_is : (a : ℕ) (x y : Bool) → member s a ≡ x → eqb (get_or f a 0) side ≡ y → out a ≡ (x && not y)
  out_is a x y e g = outside_side side s f a ∙ ap₂ (λ u v. u && not v) e g

  -- the next number is such a point
  pub outside_yes : (a : ℕ) → member s a ≡ true → eqb (get_or f a 0) side ≡ false → outside_to (a + 1) ≡ outside_to a ++ (a ∷ [])
  unfolding cons_if
  outside_yes a e g = next_point a e ∙ ap (λ z. outside_to a ++ cons_if z a []) (out_is a true false e g)

  -- it is a point of the part
  pub outside_part : (a : ℕ) → member s a ≡ true → eqb (get_or f a 0) side ≡ true → outside_to (a + 1) ≡ outside_to a
  unfolding cons_if
  outside_part a e g = next_point a e ∙ ap (λ z. outside_to a ++ cons_if z a []) (out_is a true true e g) ∙ append-nil (outside_to a)

  -- it is no point of the set
  pub outside_set : (a : ℕ) → member s a ≡ false → outside_to (a + 1) ≡ outside_to a
  outside_set a e = ap (select out) (select_no (member s) a e)
