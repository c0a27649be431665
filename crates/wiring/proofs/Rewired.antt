-- Masks with their taps rearranged.
--   rewired_long     a rearranged mask has 512 bytes
--   rewired_formed   and obeys the 0/1/0 rule
--   rewired_at       its byte at a point is that of the old point's bit
--   rewired_byte     so of a well formed mask it is the byte of the old point
--   rewired_member   it is marked just if the old point is
--   rewired_points   its points are those whose old point is one
--   rewired_part     and so of a part
--   unmoved          a mask is the same where its old points are
--   back_point       an old point is the old point of a point of the rearranged mask
--   back_part        and so of a part
--   restored         the inverse restores a mask
use mathlib.Core.Path.{◌≡◌, sym, ap, subst, ◌∙◌}
use mathlib.Core.Logic.{◌↔◌}
use mathlib.Core.Bool.{true, ◌&&◌}
use mathlib.Core.List.{List, Memᴰ}
use Prim.Native.Nat.{ℕ, ◌≤◌, ◌<◌}
use native.Mathlib.Omega.{arith}
use native.Mathlib.Decide.{dec_lt}
use lib.Dec.{eqb, ltb}
use lib.ListN.{length, get_or}
use lib.Pow.{pow_mono}
use lib.Seq.{ext_get_or}
use borrow.Author.Tests.{ltb-true, lt-ltb}
use Rattle.cube.specs.Cube.{size}
use Rattle.cube.specs.Mask.{well_formed, member, points, byte}
use Rattle.cube.proofs.Listed.{and_both, member_select}
use Rattle.cube.proofs.Masks.{value_at, member_points, byte_small, byte_zero, byte_member, member_byte, points_inside}
use Rattle.cube.proofs.MaskOf.{length_mask, mask_well_formed}
use Rattle.filter.specs.Part.{part}
use Rattle.wiring.specs.Wiring.{Wiring, old_point, rewired, inverse}
use Rattle.wiring.proofs.Wirings.{moves}

module _ (n : ℕ) (ts b : List ℕ) where
  -- it has 512 bytes
  pub rewired_long : length (rewired n ts b) ≡ 512
  unfolding rewired
  rewired_long = length_mask (λ a. ltb a (size n) && member b (old_point n ts a))

  -- it obeys the 0/1/0 rule
  pub rewired_formed : well_formed n (rewired n ts b) ≡ true
  unfolding rewired
  rewired_formed = mask_well_formed n (λ a. ltb a (size n) && member b (old_point n ts a)) (λ v e. ltb-true v (size n) (and_both (ltb v (size n)) _ e).0)

  -- its byte at a point is that of the old point's bit
  pub rewired_at : n ≤ 9 → (a : ℕ) → a < size n → get_or (rewired n ts b) a 0 ≡ byte (member b (old_point n ts a))
  unfolding rewired
  rewired_at small a l =
      value_at (λ v. byte (ltb v (size n) && member b (old_point n ts v))) 512 a 0 (omega (arith, pow_mono small)) ∙ rw (lt-ltb a (size n) l)

  -- so of a well formed mask it is the byte of the old point
  pub rewired_byte : n ≤ 9 → well_formed n b ≡ true → (a : ℕ) → a < size n → get_or (rewired n ts b) a 0 ≡ get_or b (old_point n ts a) 0
  rewired_byte small formed a l = rewired_at small a l ∙ byte_member b (old_point n ts a) (byte_small (size n) b (old_point n ts a) formed)

  -- it is marked just if the old point is
  pub rewired_member : n ≤ 9 → (a : ℕ) → a < size n → member (rewired n ts b) a ≡ member b (old_point n ts a)
  rewired_member small a l = ap (λ x. eqb x 1) (rewired_at small a l) ∙ member_byte (member b (old_point n ts a))

  -- its points are those whose old point is one
  pub rewired_points : n ≤ 9 → (a : ℕ) → Memᴰ a (points (rewired n ts b)) ↔ ((a < size n) × Memᴰ (old_point n ts a) (points b))
  rewired_points small a = (
    λ i.
        let l : a < size n = points_inside n (rewired n ts b) rewired_formed a i in
        (l, (member_points b (old_point n ts a)).1 (sym (rewired_member small a l) ∙ (member_points (rewired n ts b) a).0 i)),
    λ p. (member_points (rewired n ts b) a).1 (rewired_member small a p.0 ∙ (member_points b (old_point n ts a)).0 p.1),
  )

-- and so of a part
pub rewired_part : (n : ℕ) (ts s f : List ℕ) → n ≤ 9 → well_formed n f ≡ true → (side a : ℕ)
    → Memᴰ a (part side (rewired n ts s) (rewired n ts f)) ↔ ((a < size n) × Memᴰ (old_point n ts a) (part side s f))
rewired_part n ts s f small formed side a = (
  λ i.
      let k = (member_select (λ c. eqb (get_or (rewired n ts f) c 0) side) (points (rewired n ts s)) a).0 i in
      let p = (rewired_points n ts s small a).0 k.1 in
      (p.0, (member_select (λ c. eqb (get_or f c 0) side) (points s) (old_point n ts a)).1 (ap (λ x. eqb x side) (sym (same p.0)) ∙ k.0, p.1)),
  λ p.
      let k = (member_select (λ c. eqb (get_or f c 0) side) (points s) (old_point n ts a)).0 p.1 in
      (member_select (λ c. eqb (get_or (rewired n ts f) c 0) side) (points (rewired n ts s)) a).1
      (ap (λ x. eqb x side) (same p.0) ∙ k.0, (rewired_points n ts s small a).1 (p.0, k.1)),
)
  where
    same : a < size n → get_or (rewired n ts f) a 0 ≡ get_or f (old_point n ts a) 0
    same l = rewired_byte n ts f small formed a l

-- a mask is the same where its old points are
pub unmoved : (n : ℕ) (ts b c : List ℕ) → n ≤ 9 → length c ≡ 512 → well_formed n c ≡ true
    → ((a : ℕ) → a < size n → member b (old_point n ts a) ≡ member c a) → rewired n ts b ≡ c
unmoved n ts b c small long formed h = ext_get_or 0 (rewired n ts b) c (rewired_long n ts b ∙ sym long) (λ a l. elim (dec_lt a (size n)) [
  | yes i ↦ rewired_at n ts b small a i ∙ ap byte (h a i) ∙ byte_member c a (byte_small (size n) c a formed)
  | no i ↦ byte_zero (size n) (rewired n ts b) a (rewired_formed n ts b) (omega arith) ∙ sym (byte_zero (size n) c a formed (omega arith))
])

module _ {n : ℕ} {ts : List ℕ} (w : Wiring n ts) (small : n ≤ 9) where
  -- the old point
  abbrev m : ℕ → ℕ
  m = old_point n ts

  -- the way back
  abbrev m' : ℕ → ℕ
  m' = old_point n (inverse n ts)

  -- an old point is the old point of a point of the rearranged mask
  pub back_point : (s : List ℕ) → well_formed n s ≡ true → (x : ℕ) → Memᴰ x (points s) → Memᴰ (m' x) (points (rewired n ts s))
  back_point s formed x i =
      let e : m (m' x) ≡ x = (moves w).forth x (points_inside n s formed x i) in
      (rewired_points n ts s small (m' x)).1 ((moves w).inside_back x, subst (λ y. Memᴰ y (points s)) (sym e) i)

  -- and so of a part
  pub back_part : (s f : List ℕ) → well_formed n s ≡ true → well_formed n f ≡ true → (side x : ℕ)
      → Memᴰ x (part side s f) → Memᴰ (m' x) (part side (rewired n ts s) (rewired n ts f))
  back_part s f formed table side x i =
      let k = (member_select (λ c. eqb (get_or f c 0) side) (points s) x).0 i in
      let e : m (m' x) ≡ x = (moves w).forth x (points_inside n s formed x k.1) in
      (rewired_part n ts s f small table side (m' x)).1 ((moves w).inside_back x, subst (λ y. Memᴰ y (part side s f)) (sym e) i)

  -- the inverse restores a mask
  pub restored : (b : List ℕ) → length b ≡ 512 → well_formed n b ≡ true → rewired n (inverse n ts) (rewired n ts b) ≡ b
  restored b long formed = unmoved n (inverse n ts) (rewired n ts b) b small long formed (λ a l.
      rewired_member n ts b small (m' a) ((moves w).inside_back a) ∙ ap (member b) ((moves w).forth a l))
