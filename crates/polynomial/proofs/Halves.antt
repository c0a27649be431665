-- The transform by the halves on the highest variable.
--   length_values    there is a value for each point
--   values_at        the value of a point at its place
--   values_same      polynomials that agree have the same values
--   one_value        with no tap, the one byte is its own transform
--   halves_joined    the lower half's values, added into those of the upper half, are the values of the whole
use mathlib.Core.Path.{◌≡◌, refl, sym, ap, ap₂, ◌∙◌}
use mathlib.Core.Bool.{Bool, true, false, xor, and-true}
use mathlib.Core.List.{List, [], ◌∷◌, ◌++◌, map}
use Prim.Native.Nat.{ℕ, suc, ◌+◌, ◌<◌}
use native.Mathlib.Omega.{arith}
use lib.Bits.{bit_xor}
use lib.Dec.{eqb}
use lib.ListN.{length, get_or, take, drop, length-append, length-map, get_or-append}
use lib.Seq.{ext_get_or, length-take-le, get_or-take, get_or-drop, get_or-append-add}
use Rattle.cube.specs.NumberLists.{up_from, below}
use Rattle.cube.specs.Cube.{size, within}
use Rattle.cube.specs.Mask.{member, byte}
use Rattle.cube.proofs.Masks.{length_from, value_at, byte_member}
use Rattle.gf2.proofs.Bits.{false_xor}
use Rattle.polynomial.specs.Polynomial.{Polynomial, sum_below, value}
use Rattle.polynomial.specs.Convert.{Bits, values, lower_added}
use Rattle.polynomial.proofs.Value.{value_same, value_low, value_high, two_halves, half_cases}

-- there is a value for each point
pub length_values : (n : ℕ) (p : Polynomial) → length (values n p) ≡ size n
unfolding values
length_values n p = length-map (below (size n)) (λ a. byte (value n p a)) ∙ length_from 0 (size n)

-- the value of a point at its place
pub values_at : (n : ℕ) (p : Polynomial) (a : ℕ) → a < size n → get_or (values n p) a 0 ≡ byte (value n p a)
unfolding values
values_at n p a l = value_at (λ b. byte (value n p b)) (size n) a 0 l

-- polynomials that agree have the same values
pub values_same : (n : ℕ) (p q : Polynomial) → ((u : ℕ) → u < size n → p u ≡ q u) → values n p ≡ values n q
values_same n p q h =
    ext_get_or 0 (values n p) (values n q) (length_values n p ∙ sym (length_values n q))
    (λ a l. let in-cube : a < size n = omega (arith, length_values n p) in
    values_at n p a in-cube ∙ ap byte (value_same n p q a h) ∙ sym (values_at n q a in-cube))

-- with no tap, the one byte is its own transform
pub one_value : (s : List ℕ) → length s ≡ 1 → Bits s → s ≡ values 0 (member s)
unfolding values value sum_below up_from within
one_value [] e b = absurd (omega arith)
one_value (x ∷ []) e b = simp (false_xor, and-true) (ap (λ y. y ∷ []) (sym (byte_member (x ∷ []) 0 (b 0))))
one_value (x ∷ y ∷ s) e b = absurd (omega arith)

-- the sum of two bits as bytes
byte_xor : (x y : Bool) → bit_xor (byte x) (byte y) ≡ byte (xor x y)
unfolding xor
byte_xor true true = refl
byte_xor true false = refl
byte_xor false true = refl
byte_xor false false = refl

module _ (m : ℕ) (s : List ℕ) (long : length s ≡ size m + size m) where
  lower : List ℕ
  lower = values m (member (take (size m) s))

  upper : List ℕ
  upper = values m (member (drop (size m) s))

  -- what the lower half's transform holds
  lower_at : (a : ℕ) → a < size m → get_or (lower ++ upper) a 0 ≡ byte (value m (member s) a)
  unfolding lower
  lower_at a l =
      get_or-append lower upper 0 a (omega (arith, length_values m (member (take (size m) s))))
      ∙ values_at m (member (take (size m) s)) a l
      ∙ ap byte (value_same m (member (take (size m) s)) (member s) a (λ u i. ap (λ x. eqb x 1) (get_or-take (size m) s u 0 i)))

  -- what the upper half's transform holds
  upper_at : (a : ℕ) → a < size m → get_or (lower ++ upper) (size m + a) 0 ≡ byte (value m (λ u. member s (size m + u)) a)
  unfolding lower upper
  upper_at a l =
      ap (λ k. get_or (lower ++ upper) (k + a) 0) (sym (length_values m (member (take (size m) s))))
      ∙ get_or-append-add lower upper a 0
      ∙ values_at m (member (drop (size m) s)) a l
      ∙ ap byte (value_same m (member (drop (size m) s)) (λ u. member s (size m + u)) a (λ u i. ap (λ x. eqb x 1) (get_or-drop (size m) s u 0)))

  both : List ℕ
  both = lower ++ upper

  -- both halves together
  both_length : length both ≡ size m + size m
  unfolding both lower upper
  both_length = length-append lower upper ∙ ap₂ ◌+◌ (length_values m (member (take (size m) s))) (length_values m (member (drop (size m) s)))

  -- a byte of the sum of two bytes
  sum_at_lem : ℕ → ℕ
  sum_at_lem k = bit_xor (get_or both k 0) (get_or both (size m + k) 0)

  -- the lower half stays
  joined_low : (a : ℕ) → a < size m → get_or (lower_added (size m) both) a 0 ≡ byte (value (suc m) (member s) a)
  unfolding both sum_at_lem
  joined_low a l =
      get_or-append (take (size m) both) (map sum_at_lem (below (size m))) 0 a (omega (arith, length-take-le (size m) both (omega (arith, both_length))))
      ∙ get_or-take (size m) both a 0 l
      ∙ lower_at a l
      ∙ ap byte (sym (value_low m (member s) a l))

  -- the upper half becomes the sums
  joined_high : (a : ℕ) → a < size m → get_or (lower_added (size m) both) (size m + a) 0 ≡ byte (value (suc m) (member s) (size m + a))
  unfolding both sum_at_lem
  joined_high a l =
      ap (λ k. get_or (lower_added (size m) both) (k + a) 0) (sym (length-take-le (size m) both (omega (arith, both_length))))
      ∙ get_or-append-add (take (size m) both) (map sum_at_lem (below (size m))) a 0
      ∙ value_at sum_at_lem (size m) a 0 l
      ∙ ap₂ bit_xor (lower_at a l) (upper_at a l)
      ∙ byte_xor (value m (member s) a) (value m (λ u. member s (size m + u)) a)
      ∙ ap byte (sym (value_high m (member s) a l))

  -- there is a byte for each point of the whole
  joined_length : length (lower_added (size m) both) ≡ size (suc m)
  unfolding sum_at_lem
  joined_length =
      length-append (take (size m) both) (map sum_at_lem (below (size m)))
      ∙ ap₂ ◌+◌ (length-take-le (size m) both (omega (arith, both_length))) (length-map (below (size m)) sum_at_lem ∙ length_from 0 (size m))
      ∙ sym (two_halves m)

  -- the lower half's values, added into those of the upper half, are the values of the whole
  pub halves_joined : lower_added (size m) (values m (member (take (size m) s)) ++ values m (member (drop (size m) s))) ≡ values (suc m) (member s)
  unfolding both lower upper
  halves_joined =
      ext_get_or 0 (lower_added (size m) both) (values (suc m) (member s))
      (joined_length ∙ sym (length_values (suc m) (member s)))
      (λ i l. let in-cube : i < size (suc m) = omega (arith, joined_length) in
      half_cases m i in-cube (joined_low i) (λ b h e. rw e (joined_high b h)) ∙ sym (values_at (suc m) (member s) i in-cube))
