-- The points of a set outside a part.
--   outside_says     the test says whether a point is outside
--   outside_marked   a point is outside just if the set's mask marks it and the part's does not
--   outside_part     then it is no point of the part
--   part_lists       a point is in the part of a side just if the set's mask marks it and the table is the side there
--   outside_side     it is outside that part just if the set's mask marks it and the table is not the side there
use mathlib.Core.Path.{◌≡◌, refl, sym, ap, ap₂, ◌∙◌}
use mathlib.Core.Logic.{◌↔◌}
use mathlib.Core.Bool.{Bool, true, false, not, ◌&&◌, false≢true}
use mathlib.Core.List.{List}
use Prim.Native.Nat.{ℕ}
use lib.Dec.{eqb}
use lib.ListN.{get_or}
use Rattle.cube.specs.NumberLists.{lists}
use Rattle.cube.specs.Mask.{member, points}
use Rattle.cube.proofs.Listed.{and_both, lists_member, not_listed, member_select}
use Rattle.cube.proofs.Masks.{member_points, lists_marked}
use Rattle.filter.specs.Part.{part}
use Rattle.filter.specs.Outside.{Outside, is_outside}

-- the test says whether a point is outside
pub outside_says : (ss ps : List ℕ) (a : ℕ) → (is_outside ss ps a ≡ true) ↔ Outside ss ps a
unfolding is_outside
outside_says ss ps a = (to, from)
  where
    to : (lists ss a && not (lists ps a)) ≡ true → Outside ss ps a
    to e = let (m, out) = and_both (lists ss a) (not (lists ps a)) e in ((lists_member ss a).0 m, λ i. false≢true (ap not (sym ((lists_member ps a).1 i)) ∙ out))

    from : Outside ss ps a → (lists ss a && not (lists ps a)) ≡ true
    from (m, out) = rw ((lists_member ss a).1 m, not_listed ps a out)

-- by the bytes of two masks
pub outside_marked : (s b : List ℕ) (a : ℕ) → is_outside (points s) (points b) a ≡ (member s a && not (member b a))
unfolding is_outside
outside_marked s b a = ap₂ (λ x y. x && not y) (lists_marked s a) (lists_marked b a)

-- a point outside the part is no point of it
pub outside_part : (s b : List ℕ) (a : ℕ) → is_outside (points s) (points b) a ≡ true → member b a ≡ false
outside_part s b a e = go (member b a) (and_both (member s a) (not (member b a)) (sym (outside_marked s b a) ∙ e)).1
  where
    go : (z : Bool) → not z ≡ true → z ≡ false
    go true h = sym h
    go false h = refl

module _ (side : ℕ) (s f : List ℕ) (a : ℕ) where
  -- by the bytes of the set and the table
  pub part_lists : lists (part side s f) a ≡ (member s a && eqb (get_or f a 0) side)
  part_lists = go (member s a) refl (eqb (get_or f a 0) side) refl
    where
      go : (x : Bool) → member s a ≡ x → (y : Bool) → eqb (get_or f a 0) side ≡ y → lists (part side s f) a ≡ (x && y)
      go true p true q = (lists_member (part side s f) a).1 ((member_select (λ b. eqb (get_or f b 0) side) (points s) a).1 (q, (member_points s a).1 p))
      go true p false q = not_listed (part side s f) a (λ m. false≢true (sym q ∙ ((member_select (λ b. eqb (get_or f b 0) side) (points s) a).0 m).0))
      go false p y q = not_listed (part side s f) a (λ m. false≢true (sym p ∙ (member_points s a).0 ((member_select (λ b. eqb (get_or f b 0) side) (points s) a).0 m).1))

  -- outside it
  pub outside_side : is_outside (points s) (part side s f) a ≡ (member s a && not (eqb (get_or f a 0) side))
  unfolding is_outside
  outside_side = ap₂ (λ x y. x && not y) (lists_marked s a) part_lists ∙ go (member s a)
    where
      go : (x : Bool) → (x && not (x && eqb (get_or f a 0) side)) ≡ (x && not (eqb (get_or f a 0) side))
      go true = refl
      go false = refl
