-- Decimal digits.
--   decimal_fewest   the fewest digits that hold a number are its decimal digits
--   decimal_short    a number below a power of ten has no more digits
use mathlib.Core.Path.{◌≡◌, sym, ap, ap₂, ◌∙◌, subst}
use mathlib.Core.Bool.{Bool, true, false, cond}
use mathlib.Core.List.{[], ◌∷◌, ◌++◌}
use Prim.Native.Nat.{ℕ, zero, suc, ◌+◌, ◌-◌, ◌/◌, ◌%◌, ◌^◌, ◌≤◌, ◌<◌}
use native.Mathlib.Nat.{pow-suc, one-le-pow, le-div_iff_mul-le, div-lt_iff_lt-mul, mod-lt}
use native.Mathlib.Omega.{arith}
use lib.Dec.{ltb}
use lib.ListN.{length, length-append}
use borrow.Author.Tests.{lt-ltb, le-ltb}
use Rattle.io.specs.Digits.{hex_digit_ascii, IsDigitCount, last_digits as digits_of}
use Rattle.text.specs.Text.{digits, decimal}

-- the last digit
last_digit : (m : ℕ) → hex_digit_ascii (m % 10) ≡ 48 + m % 10
last_digit m = ap (λ b. cond b (48 + m % 10) (87 + m % 10)) (lt-ltb (m % 10) 10 (mod-lt m (omega arith)))

-- one less than the next number
less_one : (k : ℕ) → suc k - 1 ≡ k
less_one k = omega arith

-- where two digits or more are the fewest, the number reaches a power of ten
least : (m k : ℕ) → IsDigitCount 10 1 m (suc (suc k)) → 10 ^ suc k ≤ m
least m k f = subst (λ j. 10 ^ j ≤ m) (less_one (suc k)) (f.2 (omega arith))

-- the tenth of a number that reaches a power of ten
tenth_least : (m k : ℕ) → 10 ^ suc k ≤ m → 10 ^ k ≤ m / 10
tenth_least m k h = (le-div_iff_mul-le {k = 10} {x = 10 ^ k} {y = m} (omega arith)).1 (omega (arith, h, pow-suc 10 k))

-- one digit fewer holds the tenth
fewest_tenth : (m k : ℕ) → IsDigitCount 10 1 m (suc (suc k)) → IsDigitCount 10 1 (m / 10) (suc k)
fewest_tenth m k f = (
  omega arith,
  (div-lt_iff_lt-mul {k = 10} {x = m} {y = 10 ^ suc k} (omega arith)).1 (omega (arith, f.1, pow-suc 10 (suc k))),
  λ more. subst (λ j. 10 ^ j ≤ m / 10) (sym (less_one k)) (tenth_least m k (least m k f)),
)

-- with enough fuel they are the decimal digits
digits_enough : (r k m : ℕ) → IsDigitCount 10 1 m r → r ≤ k → digits_of 10 r m ≡ digits k m
unfolding digits
digits_enough zero k m f l = absurd (omega (arith, f.0))
digits_enough (suc r) zero m f l = absurd (omega arith)
digits_enough (suc zero) (suc k) m f l =
    ap₂ (λ b x. cond b [] (digits k (m / 10)) ++ (x ∷ [])) (sym (lt-ltb m 10 (omega (arith, f.1)))) (last_digit m)
digits_enough (suc (suc r)) (suc k) m f l =
    let many : 10 ≤ m = omega (arith, least m r f, pow-suc 10 r, one-le-pow r 10 (omega arith)) in
    let tenth : digits_of 10 (suc r) (m / 10) ≡ digits k (m / 10) = digits_enough (suc r) k (m / 10) (fewest_tenth m r f) (omega arith) in
    ap₂ (λ y x. y ++ (x ∷ [])) (tenth ∙ ap (λ b. cond b [] (digits k (m / 10))) (sym (le-ltb m 10 many))) (last_digit m)

-- a power of ten is more than its exponent
less_power : (k : ℕ) → k < 10 ^ k
less_power zero = omega arith
less_power (suc k) = omega (arith, less_power k, pow-suc 10 k)

-- the fewest digits are no more than the number and one
few_digits : (r m : ℕ) → IsDigitCount 10 1 m r → r ≤ suc m
few_digits zero m f = omega arith
few_digits (suc zero) m f = omega arith
few_digits (suc (suc r)) m f = omega (arith, least m r f, less_power (suc r))

-- the fewest digits that hold a number are its decimal digits
pub decimal_fewest : (r m : ℕ) → IsDigitCount 10 1 m r → digits_of 10 r m ≡ decimal m
unfolding decimal
decimal_fewest r m f = digits_enough r (suc m) m f (few_digits r m f)

-- there are at most so many as hold the number
digits_short : (r k m : ℕ) → 0 < r → m < 10 ^ r → length (digits k m) ≤ r
unfolding digits
digits_short r zero m some l = omega arith
digits_short zero (suc k) m some l = absurd (omega arith)
digits_short (suc zero) (suc k) m some l = rw (lt-ltb m 10 (omega (arith, l))) (omega arith)
digits_short (suc (suc r)) (suc k) m some l =
    let few : m / 10 < 10 ^ suc r = (div-lt_iff_lt-mul {k = 10} {x = m} {y = 10 ^ suc r} (omega arith)).1 (omega (arith, l, pow-suc 10 (suc r))) in
    go (digits_short (suc r) k (m / 10) (omega arith) few) (ltb m 10)
  where
    go : length (digits k (m / 10)) ≤ suc r → (b : Bool) → length (cond b [] (digits k (m / 10)) ++ ((48 + m % 10) ∷ [])) ≤ suc (suc r)
    go later true = omega arith
    go later false = omega (arith, later, length-append (digits k (m / 10)) ((48 + m % 10) ∷ []))

-- a number below a power of ten has no more digits
pub decimal_short : (r m : ℕ) → 0 < r → m < 10 ^ r → length (decimal m) ≤ r
unfolding decimal
decimal_short r m some l = digits_short r (suc m) m some l
