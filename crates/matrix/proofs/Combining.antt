-- The points of a part are taken, each with its combination.
--   places_apart    the places of kept points are not that of a point outside
--   kept_few        no more rows are kept than there are points
--   points_before   the points of a mask below a are below a
--   not_before      a number is not among the points below it
--   combines_none   no point is taken yet
--   combines_no     it is not
--   combines_yes    the next number is a point of the part
use mathlib.Core.Path.{◌≡◌, refl, sym, ap, ap₂, ◌∙◌, subst}
use mathlib.Core.Bool.{Bool, true, false}
use mathlib.Core.List.{List, [], ◌∷◌, map, Memᴰ}
use Prim.Native.Nat.{ℕ, ◌+◌, ◌≤◌, ◌<◌}
use native.Mathlib.Omega.{arith}
use lib.ListN.{length, set, take, length-map}
use lib.Seq.{length-take-le}
use Rattle.cube.specs.NumberLists.{up_from, below, select, Inside}
use Rattle.cube.specs.Mask.{member}
use Rattle.cube.proofs.Listed.{member_select}
use Rattle.cube.proofs.Masks.{member_from, select_yes, select_no}
use Rattle.gf2.specs.Vector.{Row, Each, add, total, unit, chosen}
use Rattle.gf2.specs.Elimination.{Reduced, reduce, is_zero, keep_unless, Elimination, take_point, take_points, eliminate}
use Rattle.gf2.specs.Cut.{cut, padded}
use Rattle.gf2.specs.Steps.{row_of, Places, one_more_unless}
use Rattle.gf2.proofs.Each.{each_map, each_of_map, each_taken, chosen_among}
use Rattle.gf2.proofs.Chosen.{chosen_few}
use Rattle.gf2.proofs.Kept.{points_chosen, eliminate_snoc}
use Rattle.gf2.proofs.Padded.{total_padded}
use Rattle.gf2.proofs.Steps.{kept_more, keep_map}
use Rattle.point_rows.specs.Workspace.{stored}
use Rattle.matrix.proofs.Taking.{points_to}
use Rattle.matrix.specs.Combination.{followed, Combines}
use Rattle.matrix.proofs.Following.{followed_left, followed_sum, followed_other, followed_places, followed_kept}

module _ (t t' : List Row) (c : ℕ) (qs : List ℕ) (k : ℕ) (ps : List ℕ) (room : k ≤ length ps) (h : Combines t t' c qs k ps) where
  -- the places of kept points are not that of a point outside
  pub places_apart : Inside 512 qs → (a : ℕ) → ¬ Memᴰ a qs → Places ps k (512 + a)
  places_apart inside a outside =
      let Apart : ℕ → Type 0 = λ p. (512 ≤ p) × (p < 1024) × (p ≡ 512 + a → ⊥) in
      let among : Each (λ q. Memᴰ q qs) (eliminate (stored t c) qs).points = let (choice, l, e) = points_chosen (stored t c) qs in subst (Each (λ q. Memᴰ q qs)) e (chosen_among choice qs) in
      let apart : Each (λ q. Apart (512 + q)) (eliminate (stored t c) qs).points =
      each_map (λ q m. (omega arith, omega (arith, inside q m), λ e. let i : q ≡ a = omega arith in outside (subst (λ z. Memᴰ z qs) i m))) (eliminate (stored t c) qs).points among in
      (each_taken Apart 0 k ps room).0 (subst (Each Apart) (sym h.places) ((each_of_map Apart (λ q. 512 + q) (eliminate (stored t c) qs).points).1 apart))

  -- no more rows are kept than there are points
  pub kept_few : k ≤ length qs
  kept_few =
      let (choice, l, e) = points_chosen (stored t c) qs in
      let count : k ≡ length (eliminate (stored t c) qs).points =
      sym (length-take-le k ps room) ∙ ap length h.places ∙ length-map (eliminate (stored t c) qs).points (λ q. 512 + q) in
      omega (arith, chosen_few choice qs, ap length e)

-- the points of a mask below a are below a
pub points_before : (b : List ℕ) (a : ℕ) → Inside a (points_to b a)
points_before b a q m = omega (arith, ((member_from 0 a q).0 ((member_select (member b) (below a) q).0 m).1).1)

-- a number is not among the points below it
pub not_before : (b : List ℕ) (a : ℕ) → ¬ Memᴰ a (points_to b a)
not_before b a m = absurd (omega (arith, points_before b a a m))

module _ (t : List Row) (c : ℕ) (b : List ℕ) where
  -- no point is taken yet
  pub combines_none : (ps : List ℕ) → Combines t t c (points_to b 0) 0 ps
  unfolding up_from select take_points
  combines_none ps = record { kept = refl; combinations = refl; places = refl; stays = λ a m. refl }

  module _ (t' : List Row) (a k : ℕ) (ps : List ℕ) (h : Combines t t' c (points_to b a) k ps) where
    -- the next number is not a point of the part
    pub combines_no : member b a ≡ false → Combines t t' c (points_to b (a + 1)) k ps
    combines_no e = rw (select_no (member b) a e) h

    -- it is
    pub combines_yes : (t'' : List Row) (k' : ℕ) (ps' : List ℕ) → length t' ≡ 1024 → k < 512 → a < 512 → length ps ≡ 512 → Places ps k (512 + a) → member b a ≡ true
        → t'' ≡ followed c k a (padded 512 (unit a)) ps t' → ps' ≡ set ps k (512 + a) → k' ≡ one_more_unless (is_zero (row_of t'' k)) k
        → Combines t t'' c (points_to b (a + 1)) k' ps'
    unfolding take_point
    combines_yes t'' k' ps' long small point room apart e rows places count =
        let qs : List ℕ = points_to b a in
        let old : Elimination = eliminate (stored t c) qs in
        let x : Row = padded 512 (unit a) in
        let m : Reduced = reduce (take k t') (stored t' c a) in
        let z : Bool = is_zero m.left in
        let sum : Row = add (unit a) (total (chosen m.added old.combinations)) in
        let next : eliminate (stored t c) (points_to b (a + 1)) ≡ take_point (stored t c) old a = ap (eliminate (stored t c)) (select_yes (member b) a e) ∙ eliminate_snoc (stored t c) qs a in
        let same : reduce old.kept (stored t c a) ≡ m = ap₂ reduce h.kept (ap (cut c) (sym (h.stays a (not_before b a)))) in
        let more : k' ≡ one_more_unless z k =
        count ∙ ap (λ v. one_more_unless (is_zero v) k) (ap (λ s. row_of s k) rows ∙ followed_left c k a x ps t' long small point) in
        let taken : take k' ps' ≡ keep_unless z (take k ps) (512 + a) = ap₂ take more places ∙ kept_more z ps k (512 + a) (omega arith) in
        let there : row_of t'' (512 + a) ≡ padded 512 sum =
        ap (λ s. row_of s (512 + a)) rows
        ∙ followed_sum c k a x ps t' long small point room apart
        ∙ ap (λ rs. add x (total (chosen m.added rs))) h.combinations
        ∙ total_padded 512 (unit a) m.added old.combinations in
        let stay : map (row_of t'') (take k ps) ≡ map (padded 512) old.combinations =
        ap (λ s. map (row_of s) (take k ps)) rows ∙ followed_places c k a x ps t' long small point room apart ∙ h.combinations in
        record {
          kept = ap (λ (y : Elimination). y.kept) next
              ∙ ap₂ (λ (r : Reduced) y. keep_unless (is_zero r.left) y r.left) same h.kept
              ∙ sym (ap₂ take more rows ∙ followed_kept c k a x ps t' long small point z);
          combinations = ap (map (row_of t'')) taken
              ∙ keep_map (row_of t'') z (take k ps) (512 + a)
              ∙ ap₂ (keep_unless z) stay there
              ∙ sym (keep_map (padded 512) z old.combinations sum)
              ∙ sym (ap (λ (y : Elimination). map (padded 512) y.combinations) next
              ∙ ap (λ (r : Reduced). map (padded 512) (keep_unless (is_zero r.left) old.combinations (add (unit a) (total (chosen r.added old.combinations))))) same);
          places = taken
              ∙ ap (λ y. keep_unless z y (512 + a)) h.places
              ∙ sym (keep_map (λ q. 512 + q) z old.points a)
              ∙ sym (ap (λ (y : Elimination). map (λ q. 512 + q) y.points) next
              ∙ ap (λ (r : Reduced). map (λ q. 512 + q) (keep_unless (is_zero r.left) old.points a)) same);
          stays = λ j out.
              let before : ¬ Memᴰ j qs = λ i. out (subst (Memᴰ j) (sym (select_yes (member b) a e)) (mathlib.Core.List.Memᴰ.append_left (a ∷ []) i)) in
              let other : j ≡ a → ⊥ = λ i. out (subst (Memᴰ j) (sym (select_yes (member b) a e)) (mathlib.Core.List.Memᴰ.append_right qs (mathlib.Core.List.Memᴰ.head i))) in
              ap (λ s. row_of s (512 + j)) rows ∙ followed_other c k a x ps t' long small point (512 + j) (omega arith) (λ i. other (omega arith)) ∙ h.stays j before;
        }
