-- Sums modulo 2 over the numbers below a number, and over a list.
--   sum_same       tests that agree have the same sum
--   sum_none       a test that none passes has sum zero
--   sum_add        the sum of sums
--   sum_split      the sum by two ranges
--   sum_one        the sum over one number
--   sum_over xs t   the sum of a test over the numbers of a list
--   sum_listed     the sum over a list with no number twice is the sum over the numbers that it lists
use mathlib.Core.Path.{◌≡◌, refl, sym}
use mathlib.Core.Bool.{Bool, true, false, xor, ◌&&◌, ◌||◌}
use mathlib.Core.List.Memᴰ
use mathlib.Core.List.{List, [], ◌∷◌}
use Prim.Native.Nat.{ℕ, zero, suc, ◌+◌, ◌<◌}
use native.Mathlib.Omega.{arith}
use native.Mathlib.Nat.{add-zero, add-suc}
use lib.Dec.{eqb}
use borrow.Author.Tests.{eqb-true, eqb-false, ne_eqb}
use Rattle.cube.specs.NumberLists.{lists, Inside}
use Rattle.cube.proofs.Listed.{Distinct, not_listed}
use Rattle.gf2.proofs.Bits.{bits, false_xor, xor_false, xor_self, xor_assoc}
use Rattle.polynomial.specs.Polynomial.{sum_below}

-- tests that agree have the same sum
pub sum_same : (m : ℕ) (t r : ℕ → Bool) → ((u : ℕ) → u < m → t u ≡ r u) → sum_below m t ≡ sum_below m r
unfolding sum_below
sum_same zero t r h = refl
sum_same (suc m) t r h = rw (h m (omega arith), sum_same m t r (λ u l. h u (omega arith)))

-- a test that none passes has sum zero
pub sum_none : (m : ℕ) (t : ℕ → Bool) → ((u : ℕ) → u < m → t u ≡ false) → sum_below m t ≡ false
unfolding sum_below
sum_none zero t h = refl
sum_none (suc m) t h = rw (h m (omega arith), sum_none m t (λ u l. h u (omega arith)), xor_self)

-- the sum of sums
pub sum_add : (m : ℕ) (t r : ℕ → Bool) → sum_below m (λ u. xor (t u) (r u)) ≡ xor (sum_below m t) (sum_below m r)
unfolding sum_below
sum_add zero t r = rw xor_self
sum_add (suc m) t r = simp (sum_add m t r, bits)

-- the sum by two ranges
pub sum_split : (m k : ℕ) (t : ℕ → Bool) → sum_below (m + k) t ≡ xor (sum_below m t) (sum_below k (λ u. t (m + u)))
unfolding sum_below
sum_split m zero t = rw (add-zero, xor_false)
sum_split m (suc k) t = rw (add-suc, sum_split m k t) (xor_assoc (sum_below m t) (sum_below k (λ u. t (m + u))) (t (m + k)))

-- the sum over one number
pub sum_one : (m x : ℕ) (t : ℕ → Bool) → x < m → sum_below m (λ u. eqb x u && t u) ≡ t x
unfolding sum_below
sum_one zero x t l = absurd (omega arith)
sum_one (suc m) x t l = go (eqb x m) refl (sum_one m x t)
  where
    go : (b : Bool) → eqb x m ≡ b → (x < m → sum_below m (λ u. eqb x u && t u) ≡ t x) → xor (sum_below m (λ u. eqb x u && t u)) (b && t m) ≡ t x
    go true e ih =
        rw (← eqb-true x m e, sum_none x (λ u. eqb x u && t u) (λ u i. rw (ne_eqb x u (λ q. omega arith))), false_xor)
    go false e ih = rw (ih (omega (arith, eqb-false x m e)), xor_false)

-- the sum of a test over the numbers of a list
unfoldable pub sum_over : List ℕ → (ℕ → Bool) → Bool
sum_over [] t = false
sum_over (x ∷ xs) t = xor (t x) (sum_over xs t)

-- the sum over a list with no number twice is the sum over the numbers that it lists
pub sum_listed : (m : ℕ) (xs : List ℕ) (t : ℕ → Bool) → Distinct xs → Inside m xs → sum_over xs t ≡ sum_below m (λ u. lists xs u && t u)
unfolding sum_over lists
sum_listed m [] t h l = sym (sum_none m (λ u. lists [] u && t u) (λ u i. refl))
sum_listed m (x ∷ xs) t h l =
    rw (
      sum_listed m xs t h.1 (λ u i. l u (Memᴰ.tail i)),
      ← sum_one m x t (l x (Memᴰ.head refl)),
      ← sum_add m (λ u. eqb x u && t u) (λ u. lists xs u && t u),
    ) (sum_same m _ _ (λ u i. apart u (eqb x u) refl))
  where
    apart : (u : ℕ) (b : Bool) → eqb x u ≡ b → xor (b && t u) (lists xs u && t u) ≡ ((b || lists xs u) && t u)
    apart u true e = rw (← eqb-true x u e, not_listed xs x h.0, xor_false)
    apart u false e = rw false_xor
