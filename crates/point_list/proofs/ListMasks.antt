-- The mask of a list of rising points, and what it says again.
--   points_listed   the points of the mask are the list
--   listed_formed   the mask is well formed
--   points_rise     the points of a well formed mask rise and are below N
use mathlib.Core.Path.{◌≡◌, refl, ◌∙◌}
use mathlib.Core.Bool.{Bool, true, false, ◌||◌, false≢true}
use mathlib.Core.List.Memᴰ
use mathlib.Core.List.{List, [], ◌∷◌}
use Prim.Native.Nat.{ℕ, zero, suc, ◌+◌, ◌≤◌, ◌<◌}
use native.Mathlib.Omega.{arith}
use native.Mathlib.Decide.{dec_lt}
use native.Mathlib.Numerals.{add-one}
use lib.Dec.{eqb}
use lib.ListN.{length}
use borrow.Author.Tests.{eqb-true, eq-eqb, ne_eqb}
use Rattle.cube.specs.NumberLists.{up_from, cons_if, select, lists, Inside}
use Rattle.cube.specs.Cube.{size}
use Rattle.cube.specs.Mask.{well_formed, member, points, mask}
use Rattle.cube.proofs.Masks.{member_from, points_inside}
use Rattle.cube.proofs.MaskOf.{select_same, points_mask, mask_well_formed}
use Rattle.point_list.specs.PointList.{RisingFrom}

-- a number that a rising list has is not below where the list starts, and is below its bound
listed_between : (low m : ℕ) (ps : List ℕ) (u : ℕ) → RisingFrom low m ps → lists ps u ≡ true → (low ≤ u) × (u < m)
unfolding lists
listed_between low m [] u r e = absurd (false≢true e)
listed_between low m (p ∷ ps) u r e = go (eqb p u) refl e (listed_between (p + 1) m ps u r.2)
  where
    go : (b : Bool) → eqb p u ≡ b → (b || lists ps u) ≡ true → (lists ps u ≡ true → (p + 1 ≤ u) × (u < m)) → (low ≤ u) × (u < m)
    go true q h later = let same = eqb-true p u q in (omega arith, omega arith)
    go false q h later = let (l, b) = later h in (omega arith, b)

-- a number below where a rising list starts is not in it
unlisted_below : (low m : ℕ) (ps : List ℕ) (u : ℕ) → RisingFrom low m ps → u < low → lists ps u ≡ false
unlisted_below low m ps u r l = go (lists ps u) refl
  where
    go : (b : Bool) → lists ps u ≡ b → b ≡ false
    go true e = absurd (omega (arith, (listed_between low m ps u r e).0))
    go false e = refl

-- of the k numbers from u on, those that a list of such numbers has are the list
select_listed : (m u k : ℕ) (ps : List ℕ) → m ≡ u + k → RisingFrom u m ps → select (lists ps) (up_from u k) ≡ ps
unfolding up_from select cons_if lists
select_listed m u zero [] e r = refl
select_listed m u zero (p ∷ ps) e r = absurd (omega arith)
select_listed m u (suc k) [] e r = select_listed m (suc u) k [] (omega arith) tt
select_listed m u (suc k) (p ∷ ps) e r = elim (dec_lt u p) [
  | yes l ↦
      rw (ne_eqb p u (λ q. omega arith), unlisted_below (p + 1) m ps u r.2 (omega arith))
      (select_listed m (suc u) k (p ∷ ps) (omega arith) (omega arith, r.1, r.2))
  | no g ↦
      let same : p ≡ u = omega arith in
      let others : select (lists (p ∷ ps)) (up_from (suc u) k) ≡ select (lists ps) (up_from (suc u) k) =
      select_same (lists (p ∷ ps)) (lists ps) (up_from (suc u) k) (λ v i. rw (ne_eqb p v (λ q. omega (arith, ((member_from (suc u) k v).0 i).0)))) in
      let rises : RisingFrom (suc u) m ps = rw (same, add-one) at r.2 in
      rw (eq-eqb p u same, others, select_listed m (suc u) k ps (omega arith) rises, same)
]

-- points below a bound are below a higher one
rising_weaken : (low m k : ℕ) (ps : List ℕ) → m ≤ k → RisingFrom low m ps → RisingFrom low k ps
rising_weaken low m k [] l r = tt
rising_weaken low m k (p ∷ ps) l r = (r.0, omega arith, rising_weaken (p + 1) m k ps l r.2)

-- the points of the mask are the list
pub points_listed : (m : ℕ) (ps : List ℕ) → m ≤ 512 → RisingFrom 0 m ps → points (mask (lists ps)) ≡ ps
points_listed m ps l r = points_mask (lists ps) ∙ select_listed 512 0 512 ps (omega arith) (rising_weaken 0 m 512 ps l r)

-- the mask is well formed
pub listed_formed : (n : ℕ) (ps : List ℕ) → RisingFrom 0 (size n) ps → well_formed n (mask (lists ps)) ≡ true
listed_formed n ps r = mask_well_formed n (lists ps) (λ u e. (listed_between 0 (size n) ps u r e).1)

-- points that rise from a number on rise from a smaller one on
rising_lower : (low low' m : ℕ) (ps : List ℕ) → low' ≤ low → RisingFrom low m ps → RisingFrom low' m ps
rising_lower low low' m [] l r = tt
rising_lower low low' m (p ∷ ps) l r = (omega (arith, r.0), r.1, r.2)

-- what a test keeps of the numbers from one on rises
selected_rise : (t : ℕ → Bool) (m u k : ℕ) → Inside m (select t (up_from u k)) → RisingFrom u m (select t (up_from u k))
unfolding up_from select cons_if
selected_rise t m u zero inside = tt
selected_rise t m u (suc k) inside = go (t u) inside (selected_rise t m (suc u) k)
  where
    go : (b : Bool) → Inside m (cons_if b u (select t (up_from (suc u) k))) → (Inside m (select t (up_from (suc u) k)) → RisingFrom (suc u) m (select t (up_from (suc u) k)))
        → RisingFrom u m (cons_if b u (select t (up_from (suc u) k)))
    go true i later = (omega arith, i u (Memᴰ.head refl), rw add-one (later (λ v h. i v (Memᴰ.tail h))))
    go false i later = rising_lower (suc u) u m (select t (up_from (suc u) k)) (omega arith) (later i)

-- the points of a well formed mask rise and are below N
pub points_rise : (n : ℕ) (b : List ℕ) → well_formed n b ≡ true → RisingFrom 0 (size n) (points b)
points_rise n b formed = selected_rise (member b) (size n) 0 (length b) (points_inside n b formed)
