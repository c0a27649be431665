-- The mask of a test.
--   length_mask        it has 512 bytes
--   mask_well_formed   it obeys the 0/1/0 rule where only points of n taps pass
--   with_ones_snoc     one number more is marked
--   with_ones_mask     zeros that are marked at numbers are the mask of the numbers
--   select_same        tests that agree on a list keep the same of it
--   points_mask        its points are the numbers below 512 that pass
--   mask_points        the mask of the points of a well formed buffer of 512 bytes is the buffer
use mathlib.Core.Path.{◌≡◌, refl, sym, ap, ◌∙◌}
use mathlib.Core.Logic.{◌⊎◌, inl, inr}
use mathlib.Core.Bool.{Bool, true, false, ◌||◌}
use mathlib.Core.List.{List, [], ◌∷◌, ◌++◌, Memᴰ}
use Prim.Native.Nat.{ℕ, ◌≤◌, ◌<◌}
use native.Mathlib.Omega.{arith}
use native.Mathlib.Decide.{dec_lt}
use lib.Dec.{eqb}
use lib.ListN.{length, get_or, set, replicate, length-map, length-set, length-replicate, get_or-replicate, get_or-eq_default}
use lib.Seq.{get_or-set_same, get_or-set_other, ext_get_or}
use borrow.Author.Tests.{eqb-true, eqb-false}
use Rattle.cube.specs.NumberLists.{below, cons_if, select, lists}
use Rattle.cube.specs.Cube.{size}
use Rattle.cube.specs.Mask.{well_formed, member, points, byte, with_ones, mask}
use Rattle.cube.proofs.Masks.{member_from, length_from, value_at, byte_small, bytes_formed, byte_member, mask_member, lists_marked}

-- it has 512 bytes
pub length_mask : (t : ℕ → Bool) → length (mask t) ≡ 512
length_mask t = length-map (below 512) _ ∙ length_from 0 512

-- a byte of it is that of its number's bit, or past its end
mask_byte : (t : ℕ → Bool) (i : ℕ) → (get_or (mask t) i 0 ≡ byte (t i)) ⊎ (get_or (mask t) i 0 ≡ 0)
mask_byte t i = elim (dec_lt i 512) [
  | yes l ↦ inl (value_at (λ v. byte (t v)) 512 i 0 l)
  | no g ↦ inr (get_or-eq_default (mask t) 0 (omega (arith, length_mask t)))
]

-- it obeys the 0/1/0 rule where only points of n taps pass
pub mask_well_formed : (n : ℕ) (t : ℕ → Bool) → ((v : ℕ) → t v ≡ true → v < size n) → well_formed n (mask t) ≡ true
mask_well_formed n t h = bytes_formed (size n) (mask t) (λ i l. low i (mask_byte t i)) (λ i l. high i l (t i) refl (mask_byte t i))
  where
    small : (b : Bool) → byte b ≤ 1
    small true = omega arith
    small false = omega arith

    low : (i : ℕ) → (get_or (mask t) i 0 ≡ byte (t i)) ⊎ (get_or (mask t) i 0 ≡ 0) → get_or (mask t) i 0 ≤ 1
    low i (inl e) = rw e (small (t i))
    low i (inr e) = omega arith

    high : (i : ℕ) → size n ≤ i → (b : Bool) → t i ≡ b → (get_or (mask t) i 0 ≡ byte (t i)) ⊎ (get_or (mask t) i 0 ≡ 0) → get_or (mask t) i 0 ≡ 0
    high i l true q e = absurd (omega (arith, h i q))
    high i l false q (inl e) = rw q at e
    high i l false q (inr e) = e

-- 1 where a bit is set, else another byte
abbrev one_or : Bool → ℕ → ℕ
one_or true x = 1
one_or false x = x

-- the byte at a place: 1 for a marked number, else as it was
with_ones_at : (us b : List ℕ) (a : ℕ) → a < length b → get_or (with_ones us b) a 0 ≡ one_or (lists us a) (get_or b a 0)
unfolding with_ones lists
with_ones_at [] b a h = refl
with_ones_at (u ∷ us) b a h = with_ones_at us (set b u 1) a (rw length-set h) ∙ go (eqb u a) refl (lists us a)
  where
    go : (t : Bool) → eqb u a ≡ t → (c : Bool) → one_or c (get_or (set b u 1) a 0) ≡ one_or (t || c) (get_or b a 0)
    go true e true = refl
    go true e false = rw (eqb-true u a e) (get_or-set_same b a 1 0 h)
    go false e true = refl
    go false e false = get_or-set_other b u a 1 0 (λ q. eqb-false u a e (sym q))

-- marking changes no length
length_with_ones : (us b : List ℕ) → length (with_ones us b) ≡ length b
unfolding with_ones
length_with_ones [] b = refl
length_with_ones (u ∷ us) b = length_with_ones us (set b u 1) ∙ length-set b u 1

-- one number more is marked
pub with_ones_snoc : (us : List ℕ) (u : ℕ) (b : List ℕ) → with_ones (us ++ (u ∷ [])) b ≡ set (with_ones us b) u 1
unfolding with_ones
with_ones_snoc [] u b = refl
with_ones_snoc (v ∷ us) u b = with_ones_snoc us u (set b v 1)

-- zeros that are marked at numbers are the mask of the numbers
pub with_ones_mask : (us : List ℕ) → with_ones us (replicate 512 0) ≡ mask (lists us)
with_ones_mask us = ext_get_or 0 (with_ones us (replicate 512 0)) (mask (lists us)) (long ∙ sym (length_mask (lists us))) same
  where
    long : length (with_ones us (replicate 512 0)) ≡ 512
    long = length_with_ones us (replicate 512 0) ∙ length-replicate {A = ℕ} 512 0

    one : (t : Bool) → one_or t 0 ≡ byte t
    one true = refl
    one false = refl

    same : (a : ℕ) → a < length (with_ones us (replicate 512 0)) → get_or (with_ones us (replicate 512 0)) a 0 ≡ get_or (mask (lists us)) a 0
    same a h =
        let l : a < 512 = omega (arith, long) in
        with_ones_at us (replicate 512 0) a (rw (length-replicate {A = ℕ} 512 0) l)
        ∙ rw (get_or-replicate {A = ℕ} 512 a 0 0 l, value_at (λ v. byte (lists us v)) 512 a 0 l) (one (lists us a))

-- tests that agree on a list keep the same of it
pub select_same : (t r : ℕ → Bool) (xs : List ℕ) → ((u : ℕ) → Memᴰ u xs → t u ≡ r u) → select t xs ≡ select r xs
unfolding select
select_same t r [] h = refl
select_same t r (x ∷ xs) h = rw (h x (Memᴰ.head refl)) (ap (cons_if (r x) x) (select_same t r xs (λ u m. h u (Memᴰ.tail m))))

-- its points are the numbers below 512 that pass
pub points_mask : (t : ℕ → Bool) → points (mask t) ≡ select t (below 512)
points_mask t = ap (λ k. select (member (mask t)) (below k)) (length_mask t) ∙ select_same (member (mask t)) t (below 512) (λ u m. mask_member t u (omega (arith, ((member_from 0 512 u).0 m).1)))

-- the mask of the points of a well formed buffer of 512 bytes is the buffer
pub mask_points : (n : ℕ) (b : List ℕ) → length b ≡ 512 → well_formed n b ≡ true → mask (lists (points b)) ≡ b
mask_points n b long formed = ext_get_or 0 (mask (lists (points b))) b (length_mask (lists (points b)) ∙ sym long) (λ a l.
    value_at (λ u. byte (lists (points b) u)) 512 a 0 (omega (arith, length_mask (lists (points b))))
    ∙ ap byte (lists_marked b a) ∙ byte_member b a (byte_small (size n) b a formed))
