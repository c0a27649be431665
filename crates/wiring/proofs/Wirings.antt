-- Wirings and the wirings that undo them.
--   place_entry       an entry of the bits of the taps
--   places_long       they are as many as the taps
--   places_distinct   they are different
--   places_inside     and below n
--   wiring_named      each tap is named
--   inverse_entry     the inverse holds for each entry its place
--   inverse_at        and so for each tap
--   inverse_wiring    the inverse of a wiring is a wiring
--   wiring_entry      the wiring holds for each entry of the inverse its place
--   inverse_twice     the inverse of the inverse is the wiring
--   Moves n m m'      m moves the points of n taps, m' moves them back, and exponents lie within points and weigh as before
--   moves             a wiring moves points, and its inverse moves them back
use mathlib.Core.Path.{◌≡◌, refl, sym, ap, ◌∙◌}
use mathlib.Core.List.{List, [], ◌∷◌}
use Prim.Native.Nat.{ℕ, zero, suc, ◌-◌, ◌%◌, ◌^◌, ◌<◌}
use native.Mathlib.Omega.{arith}
use native.Mathlib.Nat.{mod-eq_of_lt}
use lib.Count.{ones}
use lib.ListN.{length, get_or, length-map}
use lib.Seq.{ext_get_or}
use borrow.Author.Tests.{eq-eqb, ne_eqb}
use Rattle.cube.specs.NumberLists.{below, Inside}
use Rattle.cube.specs.Cube.{size, within, weight}
use Rattle.cube.proofs.Listed.{Distinct, distinct_places, member_place, image_at, member_all}
use Rattle.cube.proofs.Masks.{length_from, value_at}
use Rattle.wiring.specs.Wiring.{Wiring, places, old_point, one_if, place_of, inverse}
use Rattle.wiring.proofs.Spread.{spread_inside, spread_weight, spread_within, Undoes, spread_back}

-- the place of an entry, where none before it is the same
place_at : (ts : List ℕ) (i : ℕ) → i < length ts → ((j : ℕ) → j < i → ¬ (get_or ts j 0 ≡ get_or ts i 0)) → place_of ts (get_or ts i 0) ≡ suc i
unfolding place_of one_if
place_at [] i l h = absurd (omega arith)
place_at (x ∷ ts) zero l h = rw (eq-eqb x x refl)
place_at (x ∷ ts) (suc i) l h =
    ap (λ b. one_if b (place_of ts (get_or ts i 0))) (ne_eqb x (get_or ts i 0) (h 0 (omega arith)))
    ∙ ap suc (place_at ts i (omega arith) (λ j m. h (suc j) (omega arith)))

module _ {n : ℕ} {ts : List ℕ} (w : Wiring n ts) where
  -- an entry of the places
  pub place_entry : (i : ℕ) → i < n → get_or (places n ts) i 0 ≡ n - get_or ts i 0
  place_entry i l = image_at (λ t. n - t) ts i 0 (omega (arith, w.long))

  -- they are as many as the taps
  pub places_long : length (places n ts) ≡ n
  places_long = length-map ts (λ t. n - t) ∙ w.long

  -- they are different
  pub places_distinct : Distinct (places n ts)
  places_distinct = distinct_places (places n ts) (λ i j l m e.
      let li : i < n = omega (arith, places_long) in
      let lj : j < n = omega (arith, places_long) in
      let a = w.inside i li in
      let b = w.inside j lj in
      w.once i j li lj (omega (arith, place_entry i li, place_entry j lj, a.0, a.1, b.0, b.1)))

  -- and below n
  pub places_inside : Inside n (places n ts)
  places_inside u m =
      let p = member_place m in
      let l : p.0 < n = omega (arith, p.1, places_long) in
      omega (arith, p.2, place_entry p.0 l, (w.inside p.0 l).0, (w.inside p.0 l).1)

  -- each tap is named
  pub wiring_named : (k : ℕ) → k < n → (i : ℕ) × (i < n) × (get_or ts i 0 ≡ suc k)
  wiring_named k l =
      let p = member_place (member_all n (places n ts) places_long places_distinct places_inside (n - suc k) (omega arith)) in
      let i : p.0 < n = omega (arith, p.1, places_long) in
      (p.0, i, omega (arith, p.2, place_entry p.0 i, (w.inside p.0 i).0, (w.inside p.0 i).1))

  -- the inverse holds for each entry its place
  pub inverse_entry : (i : ℕ) → i < n → get_or (inverse n ts) (get_or ts i 0 - 1) 0 ≡ suc i
  unfolding inverse
  inverse_entry i l =
      let inside = w.inside i l in
      let e : suc (get_or ts i 0 - 1) ≡ get_or ts i 0 = omega (arith, inside.0) in
      value_at (λ k. place_of ts (suc k)) n (get_or ts i 0 - 1) 0 (omega (arith, inside.0, inside.1))
      ∙ ap (place_of ts) e
      ∙ place_at ts i (omega (arith, w.long)) (λ j m q. let s : j ≡ i = w.once j i (omega arith) l q in omega arith)

  -- and for each tap
  pub inverse_at : (k : ℕ) → k < n → (i : ℕ) × (i < n) × (get_or ts i 0 ≡ suc k) × (get_or (inverse n ts) k 0 ≡ suc i)
  inverse_at k l =
      let (i, m, e) = wiring_named k l in
      let q : get_or ts i 0 - 1 ≡ k = omega (arith, e) in
      (i, m, e, ap (λ j. get_or (inverse n ts) j 0) (sym q) ∙ inverse_entry i m)

  -- the inverse has n entries
  inverse_long : length (inverse n ts) ≡ n
  unfolding inverse
  inverse_long = length-map (below n) (λ k. place_of ts (suc k)) ∙ length_from 0 n

  -- the inverse of a wiring is a wiring
  pub inverse_wiring : Wiring n (inverse n ts)
  inverse_wiring = record {
    long = inverse_long;
    inside = λ k l. let (i, m, e, q) = inverse_at k l in (omega (arith, q), omega (arith, q));
    once = λ j k l m e.
        let (i, a, p, q) = inverse_at j l in
        let (i', a', p', q') = inverse_at k m in
        let same : i ≡ i' = omega (arith, q, q', e) in
        omega (arith, p, p', ap (λ x. get_or ts x 0) same);
  }

  -- the wiring holds for each entry of the inverse its place
  pub wiring_entry : (k : ℕ) → k < n → get_or ts (get_or (inverse n ts) k 0 - 1) 0 ≡ suc k
  wiring_entry k l =
      let (i, m, e, q) = inverse_at k l in
      let s : get_or (inverse n ts) k 0 - 1 ≡ i = omega (arith, q) in
      ap (λ j. get_or ts j 0) s ∙ e

-- the inverse of the inverse is the wiring
pub inverse_twice : {n : ℕ} {ts : List ℕ} → Wiring n ts → inverse n (inverse n ts) ≡ ts
inverse_twice {n} {ts} w =
    let v = inverse_wiring w in
    let t = inverse_wiring v in
    ext_get_or 0 (inverse n (inverse n ts)) ts (t.long ∙ sym w.long) (λ k l.
    let m : k < n = omega (arith, t.long) in
    let (i, a, e, q) = inverse_at v k m in
    let x = w.inside k m in
    let y : get_or (inverse n ts) (get_or ts k 0 - 1) 0 ≡ suc k = inverse_entry w k m in
    let z : i ≡ get_or ts k 0 - 1 = v.once i (get_or ts k 0 - 1) a (omega (arith, x.0, x.1)) (e ∙ sym y) in
    omega (arith, q, z, x.0))

-- a wiring whose entries are the places of another undoes it
undoes : {n : ℕ} {ts qs : List ℕ} → Wiring n ts → Wiring n qs → ((i : ℕ) → i < n → get_or qs (get_or ts i 0 - 1) 0 ≡ suc i) → Undoes n (places n ts) (places n qs)
undoes {n} {ts} {qs} w v h = record {
  long = places_long w;
  long_back = places_long v;
  distinct = places_distinct w;
  distinct_back = places_distinct v;
  inside = places_inside w;
  inside_back = places_inside v;
  undo = λ i l.
      let inside = w.inside i l in
      let e : n - suc (get_or (places n ts) i 0) ≡ get_or ts i 0 - 1 = omega (arith, place_entry w i l, inside.0, inside.1) in
      ap (λ k. get_or (places n qs) k 0) e ∙ place_entry v (get_or ts i 0 - 1) (omega (arith, inside.0, inside.1)) ∙ ap (λ t. n - t) (h i l);
}

-- m moves the points of n taps, m' moves them back
pub record Moves (n : ℕ) (m m' : ℕ → ℕ) : Type 0 where
  pub inside : (a : ℕ) → m a < size n
  pub inside_back : (a : ℕ) → m' a < size n
  pub back : (a : ℕ) → a < size n → m' (m a) ≡ a
  pub forth : (a : ℕ) → a < size n → m (m' a) ≡ a
  pub within : (u a : ℕ) → u < size n → within (m u) (m a) ≡ within u a
  pub weight : (u : ℕ) → u < size n → weight (m u) ≡ weight u

-- a wiring moves points, and its inverse moves them back
pub moves : {n : ℕ} {ts : List ℕ} → Wiring n ts → Moves n (old_point n ts) (old_point n (inverse n ts))
unfolding old_point
moves {n} {ts} w = record {
  inside = λ a. spread_inside n (places n ts) a (places_inside w);
  inside_back = λ a. spread_inside n (places n (inverse n ts)) a (places_inside (inverse_wiring w));
  back = spread_back n (places n ts) (places n (inverse n ts)) (undoes w (inverse_wiring w) (inverse_entry w));
  forth = spread_back n (places n (inverse n ts)) (places n ts) (undoes (inverse_wiring w) w (wiring_entry w));
  within = λ u a l. spread_within (places n ts) (places_distinct w) u a (rw (places_long w) l);
  weight = λ u l. spread_weight (places n ts) u (places_distinct w) ∙ ap (λ k. ones (u % 2 ^ k)) (places_long w) ∙ ap ones (mod-eq_of_lt l);
}
