-- The test of a mask is that of the largest byte of its points and of the largest past them (split_formed).
use borrow.Author.Tests.{le-leb, lt-leb, ne_eqb}
use mathlib.Core.Path.{◌≡◌, refl, sym, ap, ◌∙◌}
use mathlib.Core.Bool.{◌&&◌, and_assoc}
use mathlib.Core.List.{List, [], ◌∷◌}
use Prim.Native.Nat.{ℕ, zero, suc, ◌^◌, ◌<◌, ◌≤◌, max, min}
use native.Mathlib.Decide.{dec_lt}
use native.Mathlib.Omega.{arith}
use lib.ListN.{length, take, drop, drop_of_length-le}
use lib.Dec.{eqb, leb}
use lib.Pow.{pow_mono}
use lib.Seq.{take_all}
use Rattle.cube.specs.NumberLists.{largest}
use Rattle.cube.specs.Mask.{bits_then_zeros}
use Rattle.cube.proofs.mask.well_formed.Goals as goal
use Rattle.cube.proofs.mask.well_formed.Goals.{After-largest-zeros}

-- two numbers are at most 1 just if the larger is
max-bit : (x y : ℕ) → (leb x 1 && leb y 1) ≡ leb (max x y) 1
max-bit x y = elim (dec_lt 1 x) [
  | yes g ↦ rw (lt-leb x 1 g, lt-leb (max x y) 1 (omega arith))
  | no g ↦ rw (le-leb x 1 (omega arith)) (elim (dec_lt 1 y) [
    | yes h ↦ rw (lt-leb y 1 h, lt-leb (max x y) 1 (omega arith))
    | no h ↦ rw (le-leb y 1 (omega arith), le-leb (max x y) 1 (omega arith))
  ])
]

-- two numbers are 0 just if the larger is
max-zero : (x y : ℕ) → (eqb x 0 && eqb y 0) ≡ eqb (max x y) 0
max-zero x y = elim (dec_lt 0 x) [
  | yes g ↦ rw (ne_eqb x 0 (λ e. omega arith), ne_eqb (max x y) 0 (λ e. omega arith))
  | no g ↦ let e : x ≡ 0 = omega arith in let f : max 0 y ≡ y = omega arith in rw (e, f)
]

-- the bytes of points are at most 1, the others 0
by-largest : (m : ℕ) (b : List ℕ) → bits_then_zeros m b ≡ (leb (largest (λ x. x) (take m b)) 1 && eqb (largest (λ x. x) (drop m b)) 0)
unfolding bits_then_zeros largest
by-largest zero [] = refl
by-largest (suc m) [] = refl
by-largest zero (x ∷ b) = ap (λ y. eqb x 0 && y) (by-largest zero b) ∙ max-zero x (largest (λ x. x) b)
by-largest (suc m) (x ∷ b) =
    let z = eqb (largest (λ x. x) (drop m b)) 0 in
    ap (λ y. leb x 1 && y) (by-largest m b) ∙ sym (and_assoc (leb x 1) _ z) ∙ ap (λ y. y && z) (max-bit x (largest (λ x. x) (take m b)))

-- where there are no more bytes than points, those from the end on are none
whole : (m k : ℕ) (b : List ℕ) → length b ≤ m → k ≡ length b → bits_then_zeros m b ≡ (leb (largest (λ x. x) (take k b)) 1 && eqb (largest (λ x. x) (drop k b)) 0)
whole m k b h e =
    let past : drop m b ≡ [] = drop_of_length-le b h in
    let behind : drop k b ≡ [] = drop_of_length-le b (omega arith) in
    by-largest m b ∙ rw (take_all m b h, past, take_all k b (omega arith), behind)

-- the bytes are split at the number of points, as `size` answers it, or at their end
split_formed : (n p : ℕ) (b : List ℕ) → (n < 64 → p ≡ 2 ^ n) × (64 ≤ n → p ≡ 18446744073709551615)
    → length b ≤ 18446744073709551615 → bits_then_zeros (2 ^ n) b ≡ (leb (largest (λ x. x) (take (min p (length b)) b)) 1 && eqb (largest (λ x. x) (drop (min p (length b)) b)) 0)
split_formed n p b s h = elim (dec_lt n 64) [
  | yes g ↦ elim (dec_lt p (length b)) [
    | yes l ↦ let e : min p (length b) ≡ 2 ^ n = omega (arith, s.0 g) in rw e (by-largest (2 ^ n) b)
    | no l ↦ whole (2 ^ n) _ b (omega (arith, s.0 g)) (omega arith)
  ]
  | no g ↦ whole (2 ^ n) _ b (omega (arith, pow_mono {i = 64} {j = n} (omega arith))) (omega (arith, s.1 (omega arith)))
]

-- both tests together
both : (c : After-largest-zeros) →
    bits_then_zeros (2 ^ c.args.n) c.args.mask.now ≡ (leb c.largest-bits.result 1 && eqb c.largest-zeros.result 0)
both c =
    rw (c.largest-bits.ensures, c.largest-zeros.ensures, c.split_at.ensures.front, c.split_at.ensures.back, c.min.ensures)
    (split_formed c.args.n c.size.result c.args.mask.now c.size.ensures (omega arith))

pub returns-then-bits : goal.returns-then-bits
returns-then-bits c = sym (both (goal.at.returns-then-bits c).After-largest-zeros ∙ rw (le-leb c.largest-bits.result 1 c.if-bits.true))

pub returns-else-bits : goal.returns-else-bits
returns-else-bits c = sym (both (goal.at.returns-else-bits c).After-largest-zeros ∙ rw (lt-leb c.largest-bits.result 1 c.if-bits.false))
