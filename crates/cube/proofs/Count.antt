-- How many numbers below a bound pass a test.
--   count_below m t   how many numbers below m pass the test t
--   count_none       where none passes the count is zero
--   count_same       tests that agree have the same count
--   count_split      the count by two ranges
--   count_more       one more number that passes
--   count_full       where as many pass as there are, all do
use mathlib.Core.Path.{◌≡◌, refl, ap}
use mathlib.Core.Bool.{Bool, true, false, ◌||◌}
use Prim.Native.Nat.{ℕ, zero, suc, ◌+◌, ◌≤◌, ◌<◌}
use native.Mathlib.Omega.{arith}
use native.Mathlib.Decide.{dec_lt}
use native.Mathlib.Nat.{add-zero, add-suc}
use lib.Dec.{eqb}
use borrow.Author.Tests.{eqb-true, eqb-false, ne_eqb}

-- one more, or not
abbrev counted : Bool → ℕ → ℕ
counted true k = suc k
counted false k = k

-- how many numbers below m pass a test
unfoldable pub count_below : ℕ → (ℕ → Bool) → ℕ
count_below zero t = 0
count_below (suc m) t = counted (t m) (count_below m t)

-- counting one more commutes
counted_suc : (b : Bool) (k : ℕ) → counted b (suc k) ≡ suc (counted b k)
counted_suc true k = refl
counted_suc false k = refl

-- at most one more is counted
counted_le : (b : Bool) {k m : ℕ} → k ≤ m → counted b k ≤ suc m
counted_le true h = omega arith
counted_le false h = omega arith

-- where none passes the count is zero
pub count_none : (m : ℕ) (t : ℕ → Bool) → ((u : ℕ) → t u ≡ false) → count_below m t ≡ 0
unfolding count_below
count_none zero t h = refl
count_none (suc m) t h = rw (h m) (count_none m t h)

-- tests that agree have the same count
pub count_same : (m : ℕ) (t r : ℕ → Bool) → ((u : ℕ) → u < m → t u ≡ r u) → count_below m t ≡ count_below m r
unfolding count_below
count_same zero t r h = refl
count_same (suc m) t r h = rw (h m (omega arith), count_same m t r (λ u l. h u (omega arith)))

-- the count by two ranges
pub count_split : (m k : ℕ) (t : ℕ → Bool) → count_below (m + k) t ≡ count_below m t + count_below k (λ u. t (m + u))
unfolding count_below
count_split m zero t = simp add-zero
count_split m (suc k) t = rw add-suc (go (t (m + k)) refl (count_split m k t))
  where
    go : (b : Bool) → t (m + k) ≡ b → count_below (m + k) t ≡ count_below m t + count_below k (λ u. t (m + u))
        → count_below (suc (m + k)) t ≡ count_below m t + count_below (suc k) (λ u. t (m + u))
    go true e later = rw e (omega arith)
    go false e later = rw e later

-- one more number that passes
pub count_more : (m x : ℕ) (t : ℕ → Bool) → x < m → t x ≡ false → count_below m (λ u. eqb x u || t u) ≡ suc (count_below m t)
unfolding count_below
count_more zero x t l h = absurd (omega arith)
count_more (suc m) x t l h = go (eqb x m) refl (count_more m x t)
  where
    go : (b : Bool) → eqb x m ≡ b → (x < m → t x ≡ false → count_below m (λ u. eqb x u || t u) ≡ suc (count_below m t))
        → counted (b || t m) (count_below m (λ u. eqb x u || t u)) ≡ suc (counted (t m) (count_below m t))
    go true e ih =
        rw (← eqb-true x m e, h)
        (ap suc (count_same x (λ u. eqb x u || t u) t (λ u i. rw (ne_eqb x u (λ q. omega arith)))))
    go false e ih = rw (ih (omega (arith, eqb-false x m e)) h) (counted_suc (t m) _)

-- no more pass than there are
count_le : (m : ℕ) (t : ℕ → Bool) → count_below m t ≤ m
unfolding count_below
count_le zero t = omega arith
count_le (suc m) t = counted_le (t m) (count_le m t)

-- where as many pass as there are, all do
pub count_full : (m : ℕ) (t : ℕ → Bool) → count_below m t ≡ m → (u : ℕ) → u < m → t u ≡ true
unfolding count_below
count_full zero t e u l = absurd (omega arith)
count_full (suc m) t e u l = go (t m) refl e (count_full m t)
  where
    go : (b : Bool) → t m ≡ b → counted b (count_below m t) ≡ suc m → (count_below m t ≡ m → (v : ℕ) → v < m → t v ≡ true) → t u ≡ true
    go true h c ih = elim (dec_lt u m) [ yes i ↦ ih (omega arith) u i | no i ↦ let q : u ≡ m = omega arith in rw q h ]
    go false h c ih = absurd (omega (arith, count_le m t))
