-- As many points are there after the taps are rearranged as before.
--   same_length   two lists of different points that are moved into each other are equally long
--   set_count     a set has as many points
--   part_count    and so has each part
use mathlib.Core.Path.{◌≡◌, sym, subst, ◌∙◌}
use mathlib.Core.Bool.{true}
use mathlib.Core.List.Memᴰ
use mathlib.Core.List.{List, map, Memᴰ}
use Prim.Native.Nat.{ℕ, ◌≤◌}
use lib.Dec.{eqb}
use lib.ListN.{length, get_or, length-map}
use Rattle.cube.specs.NumberLists.{Inside}
use Rattle.cube.specs.Cube.{size}
use Rattle.cube.specs.Mask.{well_formed, points}
use Rattle.cube.proofs.Listed.{Distinct, distinct_select, distinct_images, length_same}
use Rattle.cube.proofs.Masks.{points_distinct, points_inside}
use Rattle.filter.specs.Part.{part}
use Rattle.filter.proofs.PartPoints.{part_inside}
use Rattle.wiring.specs.Wiring.{Wiring, rewired}
use Rattle.wiring.proofs.Wirings.{Moves, moves}
use Rattle.wiring.proofs.Rewired.{rewired_formed, rewired_points, rewired_part, back_point, back_part}

-- two lists of different points that are moved into each other are equally long
pub same_length : {n : ℕ} {m m' : ℕ → ℕ} → Moves n m m' → (ps qs : List ℕ) → Distinct ps → Distinct qs → Inside (size n) ps → Inside (size n) qs
    → ((a : ℕ) → Memᴰ a qs → Memᴰ (m a) ps) → ((a : ℕ) → Memᴰ a ps → Memᴰ (m' a) qs) → length qs ≡ length ps
same_length {n} {m} {m'} h ps qs different different' inside inside' into back =
    sym (length-map qs m)
    ∙ length_same (size n) (map m qs) ps (distinct_images m m' qs (λ a i. h.back a (inside' a i)) different') different inside (λ a. (among a, onto a))
  where
    among : (a : ℕ) → Memᴰ a (map m qs) → Memᴰ a ps
    among a i = let v = Memᴰ.of_map m qs i in subst (λ y. Memᴰ y ps) v.2 (into v.0 v.1)

    onto : (a : ℕ) → Memᴰ a ps → Memᴰ a (map m qs)
    onto a i = subst (λ y. Memᴰ y (map m qs)) (h.forth a (inside a i)) (Memᴰ.map m (back a i))

module _ {n : ℕ} {ts : List ℕ} (w : Wiring n ts) (small : n ≤ 9) (s : List ℕ) (formed : well_formed n s ≡ true) where
  -- a set has as many points
  pub set_count : length (points (rewired n ts s)) ≡ length (points s)
  set_count =
      same_length (moves w) (points s) (points (rewired n ts s)) (points_distinct s) (points_distinct (rewired n ts s))
      (points_inside n s formed) (points_inside n (rewired n ts s) (rewired_formed n ts s))
      (λ a i. ((rewired_points n ts s small a).0 i).1) (back_point w small s formed)

  -- and so has each part
  pub part_count : (f : List ℕ) → well_formed n f ≡ true → (side : ℕ) → length (part side (rewired n ts s) (rewired n ts f)) ≡ length (part side s f)
  part_count f table side =
      same_length (moves w) (part side s f) (part side (rewired n ts s) (rewired n ts f)) (different s f) (different (rewired n ts s) (rewired n ts f))
      (part_inside side (size n) s f (points_inside n s formed))
      (part_inside side (size n) (rewired n ts s) (rewired n ts f) (points_inside n (rewired n ts s) (rewired_formed n ts s)))
      (λ a i. ((rewired_part n ts s f small table side a).0 i).1) (back_part w small s f formed table side)
    where
      different : (b c : List ℕ) → Distinct (part side b c)
      different b c = distinct_select (λ a. eqb (get_or c a 0) side) (points b) (points_distinct b)
