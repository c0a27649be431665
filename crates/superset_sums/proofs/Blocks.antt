-- Sums over supersets, a variable a step.
--   BlockSums k v w   in each block of 2 to the power k numbers w is the superset sums of v in the block
--   blocks_none       no step is taken yet
--   blocks_step       one step more
--   blocks_all        after nine steps they are the sums of the whole row
use mathlib.Core.Path.{◌≡◌, sym, ap, ap₂, ◌∙◌}
use mathlib.Core.Bool.{Bool, false, xor, ◌&&◌, and-true, and-false}
use Prim.Native.Nat.{ℕ, suc, ◌+◌, ◌*◌, ◌/◌, ◌%◌, ◌^◌, ◌<◌}
use native.Mathlib.Nat.{mul-add, add-mul, one-mul}
use native.Mathlib.Omega.{arith}
use lib.ListN.{length}
use lib.Pow.{high}
use borrow.Author.Tests.{eq-eqb, ne_eqb}
use Rattle.cube.specs.Cube.{size, within}
use Rattle.cube.proofs.Halves.{within_low_high, within_high_low, within_high_high}
use Rattle.cube.proofs.Masks.{values_told}
use Rattle.gf2.specs.Vector.{Row, entry}
use Rattle.gf2.proofs.Bits.{false_xor, xor_false}
use Rattle.polynomial.specs.Polynomial.{sum_below}
use Rattle.polynomial.proofs.Sums.{sum_same, sum_none, sum_split}
use Rattle.polynomial.proofs.Value.{two_halves, half_cases}
use Rattle.superset_sums.specs.SupersetSums.{superset_sum, superset_sums, low_bit, Stepped}

-- the sums in each block
abbrev pub BlockSums : ℕ → (ℕ → Bool) → (ℕ → Bool) → Type 0
BlockSums k v w = (b j : ℕ) → j < size k → w (b * size k + j) ≡ superset_sum k (λ i. v (b * size k + i)) j

module _ (k : ℕ) (v : ℕ → Bool) (j : ℕ) (l : j < size k) where
  -- without the highest variable: the sums of both halves
  sums_low : superset_sum (suc k) v j ≡ xor (superset_sum k v j) (superset_sum k (λ i. v (size k + i)) j)
  unfolding superset_sum
  sums_low =
      rw (
        two_halves k,
        sum_split (size k) (size k) (λ i. v i && within j i),
        sum_same (size k) (λ i. v (size k + i) && within j (size k + i)) (λ i. v (size k + i) && within j i) (λ i h. rw (within_low_high k j i l h)),
      )

  -- with the highest variable: the sum of the upper half
  sums_high : superset_sum (suc k) v (size k + j) ≡ superset_sum k (λ i. v (size k + i)) j
  unfolding superset_sum
  sums_high =
      rw (
        two_halves k,
        sum_split (size k) (size k) (λ i. v i && within (size k + j) i),
        sum_none (size k) (λ i. v i && within (size k + j) i) (λ i h. rw (within_high_low k j i h, and-false)),
        sum_same (size k) (λ i. v (size k + i) && within (size k + j) (size k + i)) (λ i. v (size k + i) && within j i) (λ i h. rw (within_high_high k j i l h)),
        false_xor,
      )

-- values that agree have the same sums
sums_same : (k : ℕ) (v w : ℕ → Bool) (j : ℕ) → ((i : ℕ) → v i ≡ w i) → superset_sum k v j ≡ superset_sum k w j
unfolding superset_sum
sums_same k v w j h = sum_same (size k) (λ i. v i && within j i) (λ i. w i && within j i) (λ i l. rw (h i))

-- no step is taken yet
pub blocks_none : (v : ℕ → Bool) → BlockSums 0 v v
unfolding superset_sum sum_below within
blocks_none v b j l = let q : j ≡ 0 = omega arith in rw q (simp (false_xor, and-true))

module _ (k : ℕ) (v w w' : ℕ → Bool) (s : BlockSums k v w) (t : Stepped k w w') where
  -- a block is two smaller ones: the lower begins where it does,
  lower : (b : ℕ) → b * size (suc k) ≡ (b + b) * size k
  lower b = ap (λ m. b * m) (two_halves k) ∙ mul-add b (size k) (size k) ∙ sym (add-mul b b (size k))

  -- and the upper in its middle
  upper : (b : ℕ) → b * size (suc k) + size k ≡ (b + b + 1) * size k
  upper b = ap (λ m. m + size k) (lower b) ∙ sym (add-mul (b + b) 1 (size k) ∙ ap (λ m. (b + b) * size k + m) (one-mul (size k)))

  -- one step more
  pub blocks_step : BlockSums (suc k) v w'
  unfolding low_bit
  blocks_step b j l = half_cases k j l low high_half
    where
      m : ℕ
      m = size k

      u : ℕ → Bool
      u i = v (b * size (suc k) + i)

      shift : (i : ℕ) → b * size (suc k) + (m + i) ≡ (b + b + 1) * m + i
      shift i = omega (arith, upper b)

      low : j < m → w' (b * size (suc k) + j) ≡ superset_sum (suc k) u j
      low h =
          let at : b * size (suc k) + j ≡ (b + b) * m + j = ap (λ x. x + j) (lower b) in
          let bit : ((b + b) * m + j) / 2 ^ k % 2 ≡ 0 = rw (high (b + b) k h) (omega arith) in
          let up : (b + b) * m + j + m ≡ (b + b + 1) * m + j = omega (arith, upper b, lower b) in
          ap w' at ∙ t ((b + b) * m + j)
          ∙ ap (λ z. xor (w ((b + b) * m + j)) (z && w ((b + b) * m + j + m))) (eq-eqb _ _ bit)
          ∙ ap₂ xor (s (b + b) j h ∙ sums_same k _ u j (λ i. ap v (sym (ap (λ x. x + i) (lower b)))))
          (ap w up ∙ s (b + b + 1) j h ∙ sums_same k _ (λ i. u (m + i)) j (λ i. ap v (sym (shift i))))
          ∙ sym (sums_low k u j h)

      high_half : (i : ℕ) → i < m → j ≡ m + i → w' (b * size (suc k) + j) ≡ superset_sum (suc k) u j
      high_half i h e =
          let at : b * size (suc k) + j ≡ (b + b + 1) * m + i = ap (λ x. b * size (suc k) + x) e ∙ shift i in
          let bit : (((b + b + 1) * m + i) / 2 ^ k % 2 ≡ 0) → ⊥ = λ q. (let q' : (b + b + 1) % 2 ≡ 0 = rw (high (b + b + 1) k h) at q in omega arith) in
          ap w' at ∙ t ((b + b + 1) * m + i)
          ∙ ap (λ z. xor (w ((b + b + 1) * m + i)) (z && w ((b + b + 1) * m + i + m))) (ne_eqb _ _ bit)
          ∙ xor_false (w ((b + b + 1) * m + i))
          ∙ s (b + b + 1) i h
          ∙ sums_same k _ (λ x. u (m + x)) i (λ x. ap v (sym (shift x)))
          ∙ sym (sums_high k u i h)
          ∙ ap (superset_sum (suc k) u) (sym e)

-- after nine steps they are the sums of the whole row
pub blocks_all : (v w : Row) → length w ≡ 512 → BlockSums 9 (entry v) (entry w) → w ≡ superset_sums v
unfolding superset_sums
blocks_all v w long s =
    values_told (superset_sum 9 (entry v)) 512 false w long sums
  where
    sums : (u : ℕ) → u < 512 → entry w u ≡ superset_sum 9 (entry v) u
    sums u l =
        let e : (i : ℕ) → 0 * size 9 + i ≡ i = λ i. omega arith in
        ap (entry w) (sym (e u)) ∙ s 0 u l ∙ sums_same 9 (λ i. entry v (0 * size 9 + i)) (entry v) u (λ i. ap (entry v) (e i))
