-- Bits at given places.
--   spread_at        the bit at entry i is bit i, counted from the highest
--   spread_inside    it is a number of as many bits as the places are below
--   spread_weight    it has as many ones
--   spread_within    exponents lie within points as before
--   Undoes n bs cs   the places cs undo the places bs
--   spread_back      places that undo others give back the number
--   spread_zero      0 has no bit anywhere
--   spread_front     one bit more in front: one place more
use mathlib.Core.Path.{◌≡◌, refl, sym, ap, ap₂, ◌∙◌}
use mathlib.Core.List.{List, [], ◌∷◌, Memᴰ}
use Prim.Native.Nat.{ℕ, zero, suc, ◌+◌, ◌-◌, ◌*◌, ◌%◌, ◌^◌, ◌≤◌, ◌<◌, max}
use native.Mathlib.Omega.{arith}
use native.Mathlib.Decide.{dec_lt}
use native.Mathlib.Nat.{mod-lt, pow-suc}
use lib.Bits.{bit_and, bit_or, or_lt}
use lib.Count.{ones, ones_cat}
use lib.ListN.{length, get_or}
use lib.Pow.{pow_pos, pow_mono, mod-pow-add}
use Rattle.cube.specs.NumberLists.{Inside}
use Rattle.cube.specs.Cube.{within}
use Rattle.cube.proofs.Listed.{Distinct, same_test, place_member}
use Rattle.cube.proofs.Bits.{bit, bit_and_lem, within_bits}
use Rattle.cube.proofs.Bitwise.{bit_small, bit_or_lem, bit_past, bit_zero, bit_here, bit_there, power_inside, power_le, bits_same, front_bit, front_low, ones_or, ones_bit, ones_power}
use Rattle.wiring.specs.Wiring.{spread}

-- no bit is set that is none of the places
spread_none : (bs : List ℕ) (a b : ℕ) → ¬ Memᴰ b bs → bit b (spread bs a) ≡ 0
unfolding spread
spread_none [] a b h = bit_zero b
spread_none (c ∷ bs) a b h =
    bit_or_lem b (bit (length bs) a * 2 ^ c) (spread bs a)
    ∙ ap₂ max (bit_there c b (bit (length bs) a) (bit_small (length bs) a) (λ e. h (Memᴰ.head e))) (spread_none bs a b (λ m. h (Memᴰ.tail m)))

-- the bit at entry i is bit i, counted from the highest
pub spread_at : (bs : List ℕ) (a i : ℕ) → Distinct bs → i < length bs → bit (get_or bs i 0) (spread bs a) ≡ bit (length bs - suc i) a
unfolding spread
spread_at [] a i d l = absurd (omega arith)
spread_at (b ∷ bs) a zero d l =
    let e : suc (length bs) - 1 ≡ length bs = omega arith in
    let here : bit b (bit (length bs) a * 2 ^ b) ≡ bit (length bs) a = bit_here b (bit (length bs) a) (bit_small (length bs) a) in
    omega (arith, bit_or_lem b (bit (length bs) a * 2 ^ b) (spread bs a), here, spread_none bs a b d.0) ∙ ap (λ k. bit k a) (sym e)
spread_at (b ∷ bs) a (suc i) d l =
    let e : suc (length bs) - suc (suc i) ≡ length bs - suc i = omega arith in
    let other : bit (get_or bs i 0) (bit (length bs) a * 2 ^ b) ≡ 0 =
    bit_there b (get_or bs i 0) (bit (length bs) a) (bit_small (length bs) a) (λ q. d.0 (subst_member bs i b q (place_member bs i (omega arith)))) in
    omega (arith, bit_or_lem (get_or bs i 0) (bit (length bs) a * 2 ^ b) (spread bs a), other, spread_at bs a i d.1 (omega arith)) ∙ ap (λ k. bit k a) (sym e)
  where
    subst_member : (bs : List ℕ) (i b : ℕ) → get_or bs i 0 ≡ b → Memᴰ (get_or bs i 0) bs → Memᴰ b bs
    subst_member bs i b q m = rw (← q) m

-- it is a number of m bits
pub spread_inside : (m : ℕ) (bs : List ℕ) (a : ℕ) → Inside m bs → spread bs a < 2 ^ m
unfolding spread
spread_inside m [] a h = pow_pos m
spread_inside m (b ∷ bs) a h =
    or_lt m (bit (length bs) a * 2 ^ b) (spread bs a)
    (power_inside m b (bit (length bs) a) (h b (Memᴰ.head refl)) (bit_small (length bs) a)) (spread_inside m bs a (λ u i. h u (Memᴰ.tail i)))

-- it has as many ones as the bits that are taken
pub spread_weight : (bs : List ℕ) (a : ℕ) → Distinct bs → ones (spread bs a) ≡ ones (a % 2 ^ length bs)
unfolding spread
spread_weight [] a d = let e : a % 1 ≡ 0 = omega arith in ap ones (sym e)
spread_weight (b ∷ bs) a d = go (spread_weight bs a d.1)
  where
    apart : (x j : ℕ) → x ≤ 1 → bit j (bit_and (x * 2 ^ b) (spread bs a)) ≡ bit j 0
    apart x j l = elim (dec_lt j b) [
      | yes i ↦ omega (arith, bit_and_lem j (x * 2 ^ b) (spread bs a), bit_there b j x l (λ e. omega arith), bit_zero j)
      | no i ↦ elim (dec_lt b j) [
        | yes k ↦ omega (arith, bit_and_lem j (x * 2 ^ b) (spread bs a), bit_there b j x l (λ e. omega arith), bit_zero j)
        | no k ↦
            let e : j ≡ b = omega arith in
            omega (arith, bit_and_lem j (x * 2 ^ b) (spread bs a), ap (λ y. bit y (spread bs a)) e ∙ spread_none bs a b d.0, bit_zero j)
      ]
    ]

    go : ones (spread bs a) ≡ ones (a % 2 ^ length bs) → ones (bit_or (bit (length bs) a * 2 ^ b) (spread bs a)) ≡ ones (a % 2 ^ suc (length bs))
    go later =
        let x : ℕ = bit (length bs) a in
        let l : x ≤ 1 = bit_small (length bs) a in
        let none : ones (bit_and (x * 2 ^ b) (spread bs a)) ≡ 0 = ap ones (bits_same (bit_and (x * 2 ^ b) (spread bs a)) 0 (λ j. apart x j l)) ∙ ones_bit 0 (omega arith) in
        let parts : a % 2 ^ (1 + length bs) ≡ x * 2 ^ length bs + a % 2 ^ length bs = mod-pow-add a 1 (length bs) in
        let s : suc (length bs) ≡ 1 + length bs = omega arith in
        omega (
          arith,
          ones_or (x * 2 ^ b) (spread bs a),
          none,
          ones_power b x l,
          later,
          ap (λ y. ones (a % 2 ^ y)) s ∙ ap ones parts,
          ones_cat (length bs) x (a % 2 ^ length bs) (mod-lt a (pow_pos (length bs))),
          ones_bit x l,
        )

-- a number whose bits are bits of another: its bits at the places are bits of the other's
spread_le : (bs : List ℕ) (u a k : ℕ) → ((i : ℕ) → bit i u ≤ bit i a) → bit k (spread bs u) ≤ bit k (spread bs a)
unfolding spread
spread_le [] u a k h = omega arith
spread_le (b ∷ bs) u a k h =
    let x : ℕ = bit (length bs) u in
    let y : ℕ = bit (length bs) a in
    omega (
      arith,
      bit_or_lem k (x * 2 ^ b) (spread bs u),
      bit_or_lem k (y * 2 ^ b) (spread bs a),
      power_le b k x y (h (length bs)) (bit_small (length bs) a),
      spread_le bs u a k h,
    )

-- exponents lie within points as before
pub spread_within : (bs : List ℕ) → Distinct bs → (u a : ℕ) → u < 2 ^ length bs → within (spread bs u) (spread bs a) ≡ within u a
spread_within bs d u a l = same_test (within (spread bs u) (spread bs a)) (within u a) (
  λ e. (within_bits u a).1 (λ k. elim (dec_lt k (length bs)) [
    | yes i ↦
        let j : ℕ = length bs - suc k in
        let q : length bs - suc j ≡ k = omega arith in
        omega (
          arith,
          (within_bits (spread bs u) (spread bs a)).0 e (get_or bs j 0),
          spread_at bs u j d (omega arith) ∙ ap (λ y. bit y u) q,
          spread_at bs a j d (omega arith) ∙ ap (λ y. bit y a) q,
        )
    | no i ↦ omega (arith, bit_past (length bs) k u l (omega arith))
  ]),
  λ e. (within_bits (spread bs u) (spread bs a)).1 (λ k. spread_le bs u a k ((within_bits u a).0 e)),
)

-- the places cs undo the places bs
pub record Undoes (n : ℕ) (bs cs : List ℕ) : Type 0 where
  pub long : length bs ≡ n
  pub long_back : length cs ≡ n
  pub distinct : Distinct bs
  pub distinct_back : Distinct cs
  pub inside : Inside n bs
  pub inside_back : Inside n cs
  pub undo : (i : ℕ) → i < n → get_or cs (n - suc (get_or bs i 0)) 0 ≡ n - suc i

-- places that undo others give back the number
pub spread_back : (n : ℕ) (bs cs : List ℕ) → Undoes n bs cs → (a : ℕ) → a < 2 ^ n → spread cs (spread bs a) ≡ a
spread_back n bs cs h a l = bits_same (spread cs (spread bs a)) a (λ j. elim (dec_lt j n) [
  | yes i ↦ at j i
  | no i ↦ bit_past n j (spread cs (spread bs a)) (spread_inside n cs (spread bs a) h.inside_back) (omega arith) ∙ sym (bit_past n j a l (omega arith))
])
  where
    at : (j : ℕ) → j < n → bit j (spread cs (spread bs a)) ≡ bit j a
    at j m =
        let i : ℕ = n - suc j in
        let b : ℕ = get_or bs i 0 in
        let small : b < n = h.inside b (place_member bs i (omega (arith, h.long))) in
        let k : ℕ = n - suc b in
        let q : n - suc i ≡ j = omega arith in
        let e : length cs - suc k ≡ b = omega (arith, h.long_back) in
        let g : length bs - suc i ≡ j = omega (arith, h.long) in
        ap (λ y. bit y (spread cs (spread bs a))) (sym (h.undo i (omega arith) ∙ q))
        ∙ spread_at cs (spread bs a) k h.distinct_back (omega (arith, h.long_back))
        ∙ ap (λ y. bit y (spread bs a)) e
        ∙ spread_at bs a i h.distinct (omega (arith, h.long))
        ∙ ap (λ y. bit y a) g

-- only the bits below the number of places are taken
spread_low : (bs : List ℕ) (a c : ℕ) → ((k : ℕ) → k < length bs → bit k a ≡ bit k c) → spread bs a ≡ spread bs c
unfolding spread
spread_low [] a c h = refl
spread_low (b ∷ bs) a c h = ap₂ (λ x y. bit_or (x * 2 ^ b) y) (h (length bs) (omega arith)) (spread_low bs a c (λ k l. h k (omega arith)))

-- a place that is given no bit adds nothing
spread_skip : (bs : List ℕ) (b a : ℕ) → bit (length bs) a ≡ 0 → spread (b ∷ bs) a ≡ spread bs a
unfolding spread
spread_skip bs b a e = let z : 0 * 2 ^ b ≡ 0 = omega arith in ap (λ x. bit_or (x * 2 ^ b) (spread bs a)) e ∙ ap (λ x. bit_or x (spread bs a)) z

-- 0 has no bit anywhere
pub spread_zero : (bs : List ℕ) → spread bs 0 ≡ 0
unfolding spread
spread_zero [] = refl
spread_zero (b ∷ bs) = spread_skip bs b 0 (bit_zero (length bs)) ∙ spread_zero bs

-- one bit more in front: one place more
pub spread_front : (bs : List ℕ) (k r : ℕ) → k < length bs → r < 2 ^ k → spread bs (2 ^ k + r) ≡ bit_or (2 ^ get_or bs (length bs - suc k) 0) (spread bs r)
unfolding spread
spread_front [] k r i l = absurd (omega arith)
spread_front (b ∷ bs) k r i l = elim (dec_lt k (length bs)) [
  | yes h ↦
      let far : 2 ^ k + r < 2 ^ length bs = omega (arith, pow-suc 2 k, pow_mono h) in
      let e : suc (length bs) - suc k ≡ suc (length bs - suc k) = omega arith in
      let x : bit (length bs) (2 ^ k + r) ≡ 0 = bit_past (length bs) (length bs) (2 ^ k + r) far (omega arith) in
      let y : bit (length bs) r ≡ 0 = bit_past (length bs) (length bs) r (omega arith) (omega arith) in
      spread_skip bs b (2 ^ k + r) x ∙ spread_front bs k r h l
      ∙ ap₂ (λ p z. bit_or (2 ^ get_or (b ∷ bs) p 0) z) (sym e) (sym (spread_skip bs b r y))
  | no h ↦
      let q : length bs ≡ k = omega arith in
      let e : suc (length bs) - suc k ≡ 0 = omega arith in
      let x : bit (length bs) (2 ^ k + r) ≡ 1 = ap (λ j. bit j (2 ^ k + r)) q ∙ front_bit k r l in
      let y : bit (length bs) r ≡ 0 = ap (λ j. bit j r) q ∙ bit_past k k r l (omega arith) in
      let one : 1 * 2 ^ b ≡ 2 ^ b = omega arith in
      ap₂ (λ z t. bit_or (z * 2 ^ b) t) x (spread_low bs (2 ^ k + r) r (λ j m. front_low k r j l (omega arith)))
      ∙ ap (λ z. bit_or z (spread bs r)) one
      ∙ ap₂ (λ p z. bit_or (2 ^ get_or (b ∷ bs) p 0) z) (sym e) (sym (spread_skip bs b r y))
]
