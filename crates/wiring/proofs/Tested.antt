-- The test of a wiring.
--   wiring_each     a list is a wiring just if it has n entries and names each tap at one place
--   wiring_tested   the test says whether a list is a wiring
use mathlib.Core.Path.{◌≡◌, refl, sym, ap, ap₂, subst, ◌∙◌}
use mathlib.Core.Logic.{◌↔◌, ◌⊎◌, inl, inr}
use mathlib.Core.Bool.{Bool, true, false, ◌&&◌}
use mathlib.Core.List.Memᴰ
use mathlib.Core.List.{List, [], ◌∷◌, map, Memᴰ}
use Prim.Native.Nat.{ℕ, suc, ◌-◌, ◌≤◌, ◌<◌}
use native.Mathlib.Omega.{arith}
use lib.Dec.{eqb}
use lib.ListN.{length, get_or, length-map}
use borrow.Author.Tests.{eqb-true, eqb-false, eq-eqb}
use Rattle.cube.specs.NumberLists.{up_from, below, lists}
use Rattle.cube.proofs.Listed.{and_both, lists_member, member_place, place_member, distinct_places, member_all}
use Rattle.cube.proofs.Masks.{member_from, length_from, value_at}
use Rattle.wiring.specs.Wiring.{Wiring, names_all, is_wiring, one_if, place_of}
use Rattle.wiring.proofs.Wirings.{wiring_named}

-- where a number is named
place_back : (ts : List ℕ) (t : ℕ) → Memᴰ t ts → (i : ℕ) × (i < length ts) × (get_or ts i 0 ≡ t) × (place_of ts t ≡ suc i)
unfolding place_of one_if
place_back [] t m = absurd (Memᴰ.not-nil m)
place_back (x ∷ ts) t m = go (eqb x t) refl (Memᴰ.cases_cons m) (place_back ts t)
  where
    go : (b : Bool) → eqb x t ≡ b → (t ≡ x) ⊎ Memᴰ t ts → (Memᴰ t ts → (i : ℕ) × (i < length ts) × (get_or ts i 0 ≡ t) × (place_of ts t ≡ suc i))
        → (i : ℕ) × (i < suc (length ts)) × (get_or (x ∷ ts) i 0 ≡ t) × (one_if b (place_of ts t) ≡ suc i)
    go true e c later = (0, omega arith, eqb-true x t e, refl)
    go false e (inl q) later = absurd (eqb-false x t e (sym q))
    go false e (inr k) later = let (i, l, q, r) = later k in (suc i, omega arith, q, ap suc r)

-- each of a list is named
names_all_lem : (ts ks : List ℕ) → (names_all ts ks ≡ true) ↔ ((t : ℕ) → Memᴰ t ks → Memᴰ t ts)
unfolding names_all
names_all_lem ts [] = (λ e t m. absurd (Memᴰ.not-nil m), λ h. refl)
names_all_lem ts (k ∷ ks) = step (names_all_lem ts ks)
  where
    pick : (t : ℕ) → Memᴰ k ts → ((u : ℕ) → Memᴰ u ks → Memᴰ u ts) → (t ≡ k) ⊎ Memᴰ t ks → Memᴰ t ts
    pick t m h (inl e) = rw e m
    pick t m h (inr i) = h t i

    step : ((names_all ts ks ≡ true) ↔ ((t : ℕ) → Memᴰ t ks → Memᴰ t ts))
        → ((lists ts k && names_all ts ks) ≡ true) ↔ ((t : ℕ) → Memᴰ t (k ∷ ks) → Memᴰ t ts)
    step later = (
      λ e t m. let b = and_both (lists ts k) (names_all ts ks) e in pick t ((lists_member ts k).0 b.0) (later.0 b.1) (Memᴰ.cases_cons m),
      λ h. ap₂ ◌&&◌ ((lists_member ts k).1 (h k (Memᴰ.head refl))) (later.1 (λ t m. h t (Memᴰ.tail m))),
    )

module _ (n : ℕ) (ts : List ℕ) (long : length ts ≡ n) (named : (t : ℕ) → Memᴰ t (up_from 1 n) → Memᴰ t ts) where
  -- where tap k + 1 is named
  at : (k : ℕ) → k < n → (i : ℕ) × (i < length ts) × (get_or ts i 0 ≡ suc k) × (place_of ts (suc k) ≡ suc i)
  at k l = place_back ts (suc k) (named (suc k) ((member_from 1 n (suc k)).1 (omega arith, omega arith)))

  -- the places of the taps, from 0
  spots : List ℕ
  spots = map (λ k. place_of ts (suc k) - 1) (below n)

  -- that of tap k + 1
  spot : (k : ℕ) → k < n → get_or spots k 0 ≡ place_of ts (suc k) - 1
  unfolding spots
  spot k l = value_at (λ j. place_of ts (suc j) - 1) n k 0 l

  -- they are n
  spots_long : length spots ≡ n
  unfolding spots
  spots_long = length-map (below n) (λ k. place_of ts (suc k) - 1) ∙ length_from 0 n

  -- a spot holds its tap
  holds : (k : ℕ) → k < n → (get_or spots k 0 < n) × (get_or ts (get_or spots k 0) 0 ≡ suc k)
  holds k l =
      let (i, m, e, q) = at k l in
      let s : get_or spots k 0 ≡ i = spot k l ∙ omega (arith, q) in
      (omega (arith, s, m, long), ap (λ j. get_or ts j 0) s ∙ e)

  -- each place is one of them
  filled : (i : ℕ) → i < n → (k : ℕ) × (k < n) × (get_or spots k 0 ≡ i)
  filled i l =
      let p = member_place (member_all n spots spots_long
      (distinct_places spots (λ j k a b e.
      let lj : j < n = omega (arith, spots_long) in
      let lk : k < n = omega (arith, spots_long) in
      omega (arith, (holds j lj).1, (holds k lk).1, ap (λ x. get_or ts x 0) e)))
      (λ u m. let q = member_place m in omega (arith, q.2, (holds q.0 (omega (arith, q.1, spots_long))).0)) i l) in
      (p.0, omega (arith, p.1, spots_long), p.2)

  -- what a place holds
  entry_at : (i : ℕ) → i < n → (k : ℕ) × (k < n) × (get_or spots k 0 ≡ i) × (get_or ts i 0 ≡ suc k)
  entry_at i l = let (k, m, e) = filled i l in (k, m, e, ap (λ j. get_or ts j 0) (sym e) ∙ (holds k m).1)

  -- n entries that name each tap are a wiring
  named_wiring : Wiring n ts
  named_wiring = record {
    long = long;
    inside = λ i l. let (k, m, e, q) = entry_at i l in (omega (arith, q), omega (arith, q));
    once = λ i j l m e.
        let (k, a, p, q) = entry_at i l in
        let (k', a', p', q') = entry_at j m in
        let same : k ≡ k' = omega (arith, q, q', e) in
        sym p ∙ ap (λ x. get_or spots x 0) same ∙ p';
  }

-- a list is a wiring just if it has n entries and names each tap at one place
pub wiring_each : (n : ℕ) (ts : List ℕ) → Wiring n ts
    ↔ ((length ts ≡ n) × ((t : ℕ) → 1 ≤ t → t ≤ n → (i : ℕ) × (i < n) × (get_or ts i 0 ≡ t) × ((j : ℕ) → j < n → get_or ts j 0 ≡ t → j ≡ i)))
wiring_each n ts = (
  λ w. (
    w.long,
    λ t l m.
        let (i, a, e) = wiring_named w (t - 1) (omega arith) in
        let q : get_or ts i 0 ≡ t = omega (arith, e) in
        (i, a, q, λ j b o. w.once j i b a (o ∙ sym q)),
  ),
  λ (long, each). named_wiring n ts long (λ t m.
      let r = (member_from 1 n t).0 m in
      let (i, a, e, _) = each t r.0 (omega (arith, r.1)) in
      subst (λ x. Memᴰ x ts) e (place_member ts i (omega (arith, long)))),
)

-- the test says whether a list is a wiring
pub wiring_tested : (n : ℕ) (ts : List ℕ) → (is_wiring n ts ≡ true) ↔ Wiring n ts
unfolding is_wiring
wiring_tested n ts = (
  λ e. let b = and_both (eqb (length ts) n) (names_all ts (up_from 1 n)) e in named_wiring n ts (eqb-true (length ts) n b.0) ((names_all_lem ts (up_from 1 n)).0 b.1),
  λ w. ap₂ ◌&&◌ (eq-eqb (length ts) n w.long) ((names_all_lem ts (up_from 1 n)).1 (λ t m.
      let r = (member_from 1 n t).0 m in
      let (i, l, e) = wiring_named w (t - 1) (omega (arith, r.0, r.1)) in
      let q : get_or ts i 0 ≡ t = omega (arith, e, r.0) in
      subst (λ x. Memᴰ x ts) q (place_member ts i (omega (arith, w.long))))),
)
