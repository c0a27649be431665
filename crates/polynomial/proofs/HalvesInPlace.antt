-- The list of a slice as its halves are transformed one after the other: what `transform` owes to its calls, and what it leaves.
--   no_tap           with no tap there is nothing to do
--   mid s            where the upper half of s starts
--   bits_take        the bytes of a front are bits
--   asks_first       what the call on the lower half asks
--   asks_second      what the call on the upper half asks
--   asks_add         what the addition of the lower half asks
--   whole_values     what is left of the whole
use mathlib.Core.Path.{◌≡◌, refl, sym, ap, ap₂, ◌∙◌}
use mathlib.Core.List.{List, ◌++◌, append-nil}
use Prim.Native.Nat.{ℕ, zero, suc, ◌+◌, ◌-◌, ◌/◌}
use native.Mathlib.Decide.{dec_lt}
use native.Mathlib.Omega.{arith}
use lib.ListN.{length, take, drop, length-append, length-take, length-drop, drop_of_length-le, get_or-eq_default}
use lib.Seq.{length-take-le, get_or-take, get_or-drop, drop_at, take_at, take_all}
use borrow.Rule.Slice.PartMut.{put_mid}
use Rattle.cube.specs.Cube.{size}
use Rattle.cube.specs.Mask.{member}
use Rattle.polynomial.specs.Convert.{Bits, values, lower_added}
use Rattle.polynomial.proofs.Value.{two_halves}
use Rattle.polynomial.proofs.Halves.{length_values, one_value, halves_joined}

-- with no tap there is nothing to do
pub no_tap : (n : ℕ) (s : List ℕ) → n ≡ 0 → length s ≡ size n → Bits s → s ≡ values n (member s)
no_tap n s e l b = one_value s (l ∙ ap size e) b ∙ ap (λ k. values k (member s)) (sym e)

-- where the upper half starts
abbrev mid : List ℕ → ℕ
mid s = length s / 2

-- the bytes of a front are bits
pub bits_take : (h : ℕ) (s : List ℕ) → Bits s → Bits (take h s)
bits_take h s b k = elim (dec_lt k h) [
  | yes l ↦ rw (get_or-take h s k 0 l) (b k)
  | no l ↦ omega (arith, get_or-eq_default (take h s) 0 {n = k} (omega (arith, length-take h s)))
]

-- and so are those of what is behind it
bits_drop : (h : ℕ) (s : List ℕ) → Bits s → Bits (drop h s)
bits_drop h s b k = rw get_or-drop (b (h + k))

-- the halves of a cube with a tap
halved : (n m : ℕ) → (n ≡ 0 → ⊥) → m ≡ size n → (m ≡ m / 2 + m / 2) × (m / 2 ≡ size (n - 1))
halved zero m f e = absurd (f refl)
halved (suc n) m f e =
    let p : suc n - 1 ≡ n = omega arith in
    rw p (omega (arith, two_halves n), omega (arith, two_halves n))

-- the slice after the first call, the part that the second is lent, and the slice after the second
abbrev after : List ℕ → List ℕ → List ℕ
after s l = l ++ drop (mid s) s

abbrev part : List ℕ → List ℕ → List ℕ
part s l = take (length (after s l) - mid s) (drop (mid s) (after s l))

abbrev whole : List ℕ → List ℕ → List ℕ → List ℕ
whole s l u = put_mid (mid s) (length (after s l) - mid s) (after s l) u

module _ (n : ℕ) (s : List ℕ) (some : n ≡ 0 → ⊥) (long : length s ≡ size n) (bits : Bits s) where
  -- each half is the cube of one tap less
  half : mid s ≡ size (n - 1)
  half = (halved n (length s) some long).1

  two : length s ≡ mid s + mid s
  two = (halved n (length s) some long).0

  -- what the call on the lower half asks
  pub asks_first : (length (take (mid s) s) ≡ size (n - 1)) × Bits (take (mid s) s)
  asks_first = (length-take-le (mid s) s (omega arith) ∙ half, bits_take (mid s) s bits)

  module _ (l : List ℕ) (lower : l ≡ values (n - 1) (member (take (mid s) s))) where
    l_length : length l ≡ mid s
    l_length = ap length lower ∙ length_values (n - 1) _ ∙ sym half

    after_length : length (after s l) ≡ mid s + mid s
    after_length = simp (length-append, length-drop) (omega (arith, l_length, two))

    part_is : part s l ≡ drop (mid s) s
    part_is =
        rw (drop_at l (drop (mid s) s) (mid s) l_length)
        (take_all (length (after s l) - mid s) (drop (mid s) s) (omega (arith, after_length, length-drop (mid s) s, two)))

    -- what the call on the upper half asks
    pub asks_second : (length (part s l) ≡ size (n - 1)) × Bits (part s l)
    asks_second = rw part_is (omega (arith, length-drop (mid s) s, two, half), bits_drop (mid s) s bits)

    module _ (u : List ℕ) (upper : u ≡ values (n - 1) (member (part s l))) where
      u_length : length u ≡ mid s
      u_length = ap length upper ∙ length_values (n - 1) _ ∙ sym half

      whole_is : whole s l u ≡ l ++ u
      whole_is =
          rw (
            take_at l (drop (mid s) s) (mid s) l_length,
            drop_at l (drop (mid s) s) (mid s) l_length,
            drop_of_length-le (drop (mid s) s) {i = length (after s l) - mid s} (omega (arith, after_length, length-drop (mid s) s, two)),
            append-nil,
          )

      -- what the addition of the lower half asks
      pub asks_add : length (whole s l u) ≡ mid s + mid s
      asks_add = ap length whole_is ∙ length-append l u ∙ ap₂ ◌+◌ l_length u_length

      -- what is left of the whole
      pub whole_values : (r : List ℕ) → r ≡ lower_added (mid s) (whole s l u) → r ≡ values n (member s)
      whole_values r e =
          let joined : lower_added (size (n - 1)) (values (n - 1) (member (take (size (n - 1)) s)) ++ values (n - 1) (member (drop (size (n - 1)) s))) ≡ values (suc (n - 1)) (member s) =
          halves_joined (n - 1) s (omega (arith, half, two)) in
          let up : u ≡ values (n - 1) (member (drop (mid s) s)) = upper ∙ ap (λ x. values (n - 1) (member x)) part_is in
          let back : suc (n - 1) ≡ n = omega arith in
          e ∙ ap (lower_added (mid s)) (whole_is ∙ ap₂ ◌++◌ lower up)
          ∙ ap (λ h. lower_added h (values (n - 1) (member (take h s)) ++ values (n - 1) (member (drop h s)))) half
          ∙ joined ∙ ap (λ k. values k (member s)) back
