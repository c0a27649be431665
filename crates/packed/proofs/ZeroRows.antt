-- Rows that are zero, number by number.
--   zero_numbers       numbers that are zero hold a row that is zero
--   some_number        a row with a number that is not zero is not zero
--   disjoint_columns   two rows have no common one just if no two numbers of theirs have
use mathlib.Core.Path.{◌≡◌, refl, sym, ap, ◌∙◌}
use mathlib.Core.Logic.{inl, inr}
use mathlib.Core.Bool.{true, false, not, ◌&&◌}
use mathlib.Core.List.{List, [], ◌∷◌, ◌++◌}
use Prim.Native.Nat.{ℕ, zero, suc, ◌/◌, ◌%◌, ◌^◌, ◌<◌}
use native.Mathlib.Nat.{zero-lt-suc, pow-suc, div-lt_iff_lt-mul}
use native.Mathlib.Omega.{arith}
use lib.Bits.{bit_and, and_le_r}
use lib.Dec.{eqb}
use lib.ListN.{length, get_or}
use Rattle.std.proofs.lemmas.Bool.Decides.{eqb_tells}
use Rattle.std.proofs.lemmas.Bool.{and_right}
use Rattle.std.specs.List.{list_all, zip}
use Rattle.gf2.specs.Vector.{Row}
use Rattle.gf2.specs.Elimination.{is_zero}
use Rattle.gf2.specs.Cut.{common}
use Rattle.packed.specs.Packed.{bits_of, columns}
use Rattle.packed.proofs.Bitwise.{and_bitwise, first_joined}

-- a number that is zero is passed
zero_word : (n : ℕ) (rest : Row) → is_zero (bits_of n 0 ++ rest) ≡ is_zero rest
unfolding bits_of is_zero
zero_word zero rest = refl
zero_word (suc n) rest = zero_word n rest

-- a number with a one is one of a row that is not zero
some_word : (n a : ℕ) (rest : Row) → 0 < a → a < 2 ^ n → is_zero (bits_of n a ++ rest) ≡ false
unfolding bits_of is_zero
some_word zero a rest p h = absurd (omega arith)
some_word (suc n) a rest p h = go (a % 2) refl (λ e. some_word n (a / 2) rest (omega arith) ((div-lt_iff_lt-mul (zero-lt-suc 1)).1 (rw pow-suc at h)))
  where
    go : (r : ℕ) → a % 2 ≡ r → (a % 2 ≡ 0 → is_zero (bits_of n (a / 2) ++ rest) ≡ false)
        → (not (eqb r 1) && is_zero (bits_of n (a / 2) ++ rest)) ≡ false
    go zero e ih = ih e
    go (suc zero) e ih = refl
    go (suc (suc r)) e ih = absurd (omega arith)

-- a number and what follows it are zero just if both are
zero_first : (w : ℕ) (rest : Row) → w < 2 ^ 64 → is_zero (bits_of 64 w ++ rest) ≡ (eqb w 0 && is_zero rest)
zero_first w rest h = elim (eqb_tells w 0) [
  | inl (e, z) ↦ rw (e, z) (zero_word 64 rest)
  | inr (e, n) ↦ rw e (some_word 64 w rest (omega arith) h)
]

-- numbers that are zero hold a row that is zero
pub zero_numbers : (n : ℕ) (u : ℕ → ℕ) → ((k : ℕ) → k < n → u k ≡ 0) → is_zero (columns n u) ≡ true
unfolding columns is_zero
zero_numbers zero u z = refl
zero_numbers (suc n) u z =
    ap (λ w. is_zero (bits_of 64 w ++ columns n (λ k. u (suc k)))) (z 0 (omega arith)) ∙ zero_word 64 (columns n (λ k. u (suc k)))
    ∙ zero_numbers n (λ k. u (suc k)) (λ k h. z (suc k) (omega arith))

-- a row with a number that is not zero is not zero
pub some_number : (n : ℕ) (u : ℕ → ℕ) (k : ℕ) → k < n → 0 < u k → ((j : ℕ) → u j < 2 ^ 64) → is_zero (columns n u) ≡ false
unfolding columns
some_number zero u k h p b = absurd (omega arith)
some_number (suc n) u zero h p b = some_word 64 (u 0) (columns n (λ j. u (suc j))) p (b 0)
some_number (suc n) u (suc k) h p b =
    zero_first (u 0) (columns n (λ j. u (suc j))) (b 0) ∙ and_right _ _ (some_number n (λ j. u (suc j)) k (omega arith) p (λ j. b (suc j)))

-- two rows have no common one just if no two numbers of theirs have
pub disjoint_columns : (n : ℕ) (u v : List ℕ) → length u ≡ n → length v ≡ n → ((k : ℕ) → get_or v k 0 < 2 ^ 64)
    → list_all (λ p. eqb (bit_and p.0 p.1) 0) (zip u v) ≡ is_zero (common (columns n (λ k. get_or u k 0)) (columns n (λ k. get_or v k 0)))
unfolding columns is_zero common
disjoint_columns zero [] [] l m b = refl
disjoint_columns zero [] (y ∷ v) l m b = absurd (omega arith)
disjoint_columns zero (x ∷ u) v l m b = absurd (omega arith)
disjoint_columns (suc n) [] v l m b = absurd (omega arith)
disjoint_columns (suc n) (x ∷ u) [] l m b = absurd (omega arith)
disjoint_columns (suc n) (x ∷ u) (y ∷ v) l m b =
    let rest : Row = common (columns n (λ k. get_or u k 0)) (columns n (λ k. get_or v k 0)) in
    ap (λ z. eqb (bit_and x y) 0 && z) (disjoint_columns n u v (omega arith) (omega arith) (λ k. b (suc k)))
    ∙ sym (ap is_zero (first_joined and_bitwise x y _ _) ∙ zero_first (bit_and x y) rest (omega (arith, b 0, and_le_r x y)))
