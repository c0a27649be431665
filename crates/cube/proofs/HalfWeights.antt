-- The numbers below 2 to the power n that weigh at most d: whether they are more than half.
--   lighter n k   how many of the numbers below 2 to the power n weigh less than k
--   light_half    those that weigh at most d are more than half exactly when n ≤ 2 * d
use mathlib.Core.Path.{◌≡◌, refl, sym}
use mathlib.Core.Logic.{◌↔◌}
use Prim.Native.Nat.{ℕ, zero, suc, ◌+◌, ◌*◌, ◌≤◌, ◌<◌}
use native.Mathlib.Omega.{arith}
use native.Mathlib.Decide.{dec_lt}
use native.Mathlib.Nat.{one-mul, two-mul, mul_comm, pow-suc}
use native.Mathlib.Numerals.{one-add}
use lib.Count.{ones, ones_cat}
use lib.Dec.{leb, ltb, leb-zero, leb-suc-zero, leb-suc-suc}
use Rattle.cube.specs.Cube.{size, weight}
use Rattle.cube.proofs.Count.{count_below, count_none, count_same, count_split}

-- a number of the upper half weighs one more than the one below it
weight_high : (n u : ℕ) → u < size n → weight (size n + u) ≡ suc (weight u)
unfolding ones
weight_high n u l = simp (one-mul, one-add) at (ones_cat n 1 u l)

-- how many of the numbers below 2 to the power n weigh less than k: by the halves
unfoldable lighter : ℕ → ℕ → ℕ
lighter n zero = 0
lighter zero (suc k) = 1
lighter (suc n) (suc k) = lighter n (suc k) + lighter n k

-- so many weigh less than k
lighter_count : (n k : ℕ) → count_below (size n) (λ u. ltb (weight u) k) ≡ lighter n k
unfolding lighter count_below ones
lighter_count n zero = count_none (size n) _ (λ u. leb-suc-zero (weight u))
lighter_count zero (suc k) = rw (leb-suc-suc 0 k, leb-zero k)
lighter_count (suc n) (suc k) =
    rw (
      pow-suc 2 n,
      mul_comm,
      two-mul,
      count_split (size n) (size n) (λ u. ltb (weight u) (suc k)),
      lighter_count n (suc k),
      count_same (size n) (λ u. ltb (weight (size n + u)) (suc k)) (λ u. ltb (weight u) k)
          (λ u l. rw (weight_high n u l) (leb-suc-suc (suc (weight u)) k)),
      lighter_count n k,
    )

-- at most all do
lighter_le : (n k : ℕ) → lighter n k ≤ size n
unfolding lighter
lighter_le n zero = omega arith
lighter_le zero (suc k) = omega arith
lighter_le (suc n) (suc k) = omega (arith, pow-suc 2 n, lighter_le n (suc k), lighter_le n k)

-- all weigh at most n
lighter_all : (n k : ℕ) → n < k → lighter n k ≡ size n
unfolding lighter
lighter_all n zero h = absurd (omega arith)
lighter_all zero (suc k) h = refl
lighter_all (suc n) (suc k) h = omega (arith, pow-suc 2 n, lighter_all n (suc k) (omega arith), lighter_all n k (omega arith))

-- two limits that come to at most n + 1: those below the one and those below the other are no more than all
both_within : (n j k : ℕ) → j + k ≤ suc n → lighter n j + lighter n k ≤ size n
unfolding lighter
both_within n zero k h = omega (arith, lighter_le n k)
both_within n (suc j) zero h = omega (arith, lighter_le n (suc j))
both_within zero (suc j) (suc k) h = absurd (omega arith)
both_within (suc n) (suc j) (suc k) h = omega (arith, pow-suc 2 n, both_within n (suc j) k (omega arith), both_within n j (suc k) (omega arith))

-- two weights that come to at least n: those up to the one and those up to the other are more than all
both_exceed : (n d e : ℕ) → n ≤ d + e → size n < lighter n (suc d) + lighter n (suc e)
unfolding lighter
both_exceed zero d e h = omega arith
both_exceed (suc n) zero zero h = absurd (omega arith)
both_exceed (suc n) zero (suc e) h = omega (arith, pow-suc 2 n, both_exceed n zero e (omega arith), lighter_all n (suc (suc e)) (omega arith))
both_exceed (suc n) (suc d) zero h = omega (arith, pow-suc 2 n, both_exceed n d zero (omega arith), lighter_all n (suc (suc d)) (omega arith))
both_exceed (suc n) (suc d) (suc e) h = omega (arith, pow-suc 2 n, both_exceed n (suc d) e (omega arith), both_exceed n d (suc e) (omega arith))

-- of the numbers below 2 to the power n, those that weigh at most d are more than half exactly when n ≤ 2 * d
pub light_half : (n d : ℕ) → (size n < 2 * count_below (size n) (λ u. leb (weight u) d)) ↔ (n ≤ 2 * d)
light_half n d =
    rw (
      count_same (size n) (λ u. leb (weight u) d) (λ u. ltb (weight u) (suc d)) (λ u l. sym (leb-suc-suc (weight u) d)),
      lighter_count n (suc d),
    ) (elim (dec_lt (2 * d) n) [
      | yes l ↦ omega (arith, both_within n (suc d) (suc d) (omega arith))
      | no l ↦ omega (arith, both_exceed n d d (omega arith))
    ])
