-- Elimination goes step by step, and keeps the points that it should.
--   reduce_meets   a row is reduced as the kept rows are met
--   take_step      one point more
--   kept_of        a point is kept just if its row is no sum of rows of smaller points
use mathlib.Core.Path.{◌≡◌, refl, sym, ap, ap₂, subst}
use mathlib.Core.Logic.{◌↔◌, ◌⊎◌, inl, inr}
use mathlib.Core.Bool.{Bool, true, false}
use mathlib.Core.List.Memᴰ
use mathlib.Core.List.{List, [], ◌∷◌, ◌++◌, map, Memᴰ}
use Prim.Native.Nat.{ℕ, ◌<◌}
use native.Mathlib.Omega.{arith}
use borrow.Author.Tests.{lt-ltb, le-ltb}
use Rattle.gf2.specs.Vector.{Row, entry, Each, chosen, SumOf}
use Rattle.gf2.specs.Elimination.{pivot, is_zero, count, Echelon, Reduced, add_if, reduce, keep_unless, Elimination, take_point, eliminate}
use Rattle.gf2.specs.Points.{Rising}
use Rattle.gf2.specs.Meeting.{Meets, Step, smaller, KeptPoint}
use Rattle.gf2.proofs.Bits.{not_one}
use Rattle.gf2.proofs.Each.{each_member}
use Rattle.gf2.proofs.Reducing.{is_zero_lem}
use Rattle.gf2.proofs.Kept.{points_among, point_kept}
use Rattle.gf2.proofs.Columns.{zero_before_pivot}

-- a row is reduced as the kept rows are met
pub reduce_meets : (kept : List Row) → Echelon kept → (v : Row) → Meets kept v (reduce kept v).left (count (reduce kept v).added)
unfolding reduce add_if count
reduce_meets [] ech v = (refl, refl)
reduce_meets (r ∷ rs) ech v = go (entry v (pivot r)) refl (reduce_meets rs ech.2)
  where
    go : (b : Bool) → entry v (pivot r) ≡ b → ((w : Row) → Meets rs w (reduce rs w).left (count (reduce rs w).added))
        → Meets (r ∷ rs) v (reduce rs (add_if b v r)).left (count (b ∷ (reduce rs (add_if b v r)).added))
    go true e later = (pivot r, (ech.0, zero_before_pivot r), inl (e, (count (reduce rs (add_if true v r)).added, omega arith, later (add_if true v r))))
    go false e later = (pivot r, (ech.0, zero_before_pivot r), inr (e, later v))

-- one point more
pub take_step : (at : ℕ → Row) (e : Elimination) (a : ℕ) → Echelon e.kept → Step e (take_point at e a) a (at a)
unfolding take_point keep_unless
take_step at e a ech = record {
  remains = m.left;
  made = count m.added;
  meets = reduce_meets e.kept ech (at a);
  additions = refl;
  not_kept = λ z. let t : is_zero m.left ≡ true = (is_zero_lem m.left).1 z in (ap (λ b. keep_unless b e.kept m.left) t, ap (λ b. keep_unless b e.points a) t);
  kept = λ z. let t : is_zero m.left ≡ false = not_one _ (λ y. z ((is_zero_lem m.left).0 y)) in
      (ap (λ b. keep_unless b e.kept m.left) t, ap (λ b. keep_unless b e.points a) t);
}
  where
    m : Reduced
    m = reduce e.kept (at a)

-- greater points are not smaller
none_smaller : (a : ℕ) (ps : List ℕ) → Each (λ q. a < q) ps → smaller a ps ≡ []
unfolding chosen
none_smaller a [] h = refl
none_smaller a (p ∷ ps) h = rw (le-ltb p a (omega (arith, h.0))) (none_smaller a ps h.1)

-- before a point of rising points stand the smaller ones
split_at : (a : ℕ) (ps : List ℕ) → Rising ps → Memᴰ a ps → (after : List ℕ) × (ps ≡ smaller a ps ++ (a ∷ after))
unfolding chosen
split_at a [] r m = absurd (Memᴰ.not-nil m)
split_at a (p ∷ ps) r m = go (Memᴰ.cases_cons m) (split_at a ps r.1)
  where
    go : (a ≡ p) ⊎ Memᴰ a ps → (Memᴰ a ps → (after : List ℕ) × (ps ≡ smaller a ps ++ (a ∷ after)))
        → (after : List ℕ) × ((p ∷ ps) ≡ smaller a (p ∷ ps) ++ (a ∷ after))
    go (inl e) later =
        let none : smaller p (p ∷ ps) ≡ [] = rw (le-ltb p p (omega arith)) (none_smaller p ps r.0) in
        let none_of_a : smaller a (p ∷ ps) ≡ [] = subst (λ q. smaller q (p ∷ ps) ≡ []) (sym e) none in
        (ps, sym (ap₂ (λ x q. x ++ (q ∷ ps)) none_of_a e))
    go (inr i) later =
        let (after, e) = later i in
        (after, rw (lt-ltb p a (each_member (λ q. p < q) r.0 i)) (ap (λ l. p ∷ l) e))

-- a point is kept just if its row is no sum of rows of smaller points
pub kept_of : (at : ℕ → Row) (ps : List ℕ) → Rising ps → (a : ℕ) → Memᴰ a (eliminate at ps).points ↔ KeptPoint at ps a
kept_of at ps r a = (λ m. (points_among at ps a m, (says (points_among at ps a m)).0 m), λ h. (says h.0).1 h.1)
  where
    says : Memᴰ a ps → Memᴰ a (eliminate at ps).points ↔ (¬ SumOf (map at (smaller a ps)) (at a))
    says m =
        let (after, e) = split_at a ps r m in
        let there = point_kept at (smaller a ps) a after (subst Rising e r) in
        (λ k. there.0 (subst (λ xs. Memᴰ a (eliminate at xs).points) e k), λ n. subst (λ xs. Memᴰ a (eliminate at xs).points) (sym e) (there.1 n))
