-- The degrees up to n, one after the other.
--   place_found       the first place up to n, of a list, whose value passes a test is the first degree whose value does
--   up_to_here        the number at a degree up to n
--   up_to_past        there is none past n
--   ValuesTo f d xs   ten numbers: those that f gives at the degrees below d, and 0 from d on
--   values_none       ten zeros are those of no degree
--   values_next       those of one degree more
--   values_all        all of them
--   summed_next       the sum over one degree more
--   up_to_same        functions that agree on the degrees up to n have the same numbers
--   summed_same       and the same sum
--   summed_three      the sum of three numbers for each member
use mathlib.Core.Path.{◌≡◌, refl, sym, ap, ap₂, ◌∙◌}
use mathlib.Core.Bool.{Bool, cond}
use mathlib.Core.List.{List, [], ◌∷◌, ◌++◌, map}
use Prim.Native.Nat.{ℕ, zero, suc, ◌+◌, ◌≤◌, ◌<◌}
use native.Mathlib.Decide.{dec_lt}
use native.Mathlib.Numerals.{add-one}
use native.Mathlib.Omega.{arith}
use lib.Dec.{leb, ltb}
use lib.ListN.{length, get_or, take, drop, set, replicate, length-set, length-map, length-replicate, get_or-replicate, get_or-eq_default}
use lib.Seq.{drop-cons, get_or-set_same, get_or-set_other, ext_get_or}
use borrow.Author.Count.{below_more}
use borrow.Author.Tests.{le-leb, lt-leb}
use Rattle.std.specs.Prelude.{None, Some}
use Rattle.std.specs.List.{find, position_from, position_or_len}
use Rattle.std.proofs.lemmas.Iterator.Adapters.{position_from-zero}
use Rattle.cube.specs.NumberLists.{up_from, below}
use Rattle.cube.proofs.Masks.{below_snoc, length_from, value_at}
use Rattle.gf2.specs.Vector.{Each}
use Rattle.gf2.proofs.Each.{member_each, map_each}
use Rattle.immunity.specs.Judgement.{summed}
use Rattle.immunity.proofs.FirstUpTo.{degree_below}
use Rattle.degree_ranks.specs.Cut.{number_if, up_to}

module _ {A : Type 0} (t : A → Bool) (z : A) (xs : List A) where
  -- the first of k places from i on whose value passes
  place_from : (k i : ℕ) → i + k ≤ length xs → position_from t i (take k (drop i xs)) ≡ find (λ d. t (get_or xs d z)) (up_from i k)
  unfolding up_from
  place_from zero i l = refl
  place_from (suc k) i l = rw (drop-cons xs i z (omega arith), ← add-one i) (ap (λ x. cond (t (get_or xs i z)) (Some i) x) (place_from k (i + 1) (omega arith)))

  -- the first place up to n
  pub place_found : (n : ℕ) → n < length xs
      → cond (ltb (position_or_len t (take (n + 1) xs)) (length (take (n + 1) xs))) (Some (position_or_len t (take (n + 1) xs))) None ≡ find (λ d. t (get_or xs d z)) (below (n + 1))
  place_found n l = position_from-zero t (take (n + 1) xs) ∙ place_from (n + 1) 0 (omega arith)

module _ (n : ℕ) (f : ℕ → ℕ) (d : ℕ) where
  -- the number at a degree up to n
  pub up_to_here : d ≤ n → up_to n f d ≡ f d
  unfolding number_if
  up_to_here l = rw (le-leb d n l)

  -- there is none past n
  pub up_to_past : n < d → up_to n f d ≡ 0
  unfolding number_if
  up_to_past l = rw (lt-leb d n l)

-- the values at the degrees below d, then 0
pub record ValuesTo (f : ℕ → ℕ) (d : ℕ) (xs : List ℕ) : Type 0 where
  pub long : length xs ≡ 10
  pub found : (k : ℕ) → k < d → get_or xs k 0 ≡ f k
  pub others : (k : ℕ) → d ≤ k → get_or xs k 0 ≡ 0

module _ (f : ℕ → ℕ) where
  -- ten zeros
  pub values_none : ValuesTo f 0 (replicate 10 0)
  values_none = record {
    long = length-replicate {A = ℕ} 10 0;
    found = λ k l. absurd (omega arith);
    others = λ k l. elim (dec_lt k 10) [ yes h ↦ get_or-replicate 10 k 0 0 h | no h ↦ get_or-eq_default (replicate 10 0) 0 {n = k} (omega (arith, length-replicate {A = ℕ} 10 0)) ];
  }

  -- one degree more
  pub values_next : (d : ℕ) (xs : List ℕ) (x : ℕ) → d < 10 → x ≡ f d → ValuesTo f d xs → ValuesTo f (d + 1) (set xs d x)
  values_next d xs x l e r = record {
    long = length-set xs d x ∙ r.long;
    found = below_more _ d (λ k q. get_or-set_other xs d k x 0 (omega arith) ∙ r.found k q) (get_or-set_same xs d x 0 (omega (arith, r.long)) ∙ e);
    others = λ k q. get_or-set_other xs d k x 0 (omega arith) ∙ r.others k (omega arith);
  }

  -- all of them, where d is the last degree
  pub values_all : (n d : ℕ) (xs : List ℕ) → d ≡ n → ValuesTo f (d + 1) xs → xs ≡ map (up_to n f) (below 10)
  values_all n d xs e r = ext_get_or 0 xs (map (up_to n f) (below 10)) (r.long ∙ sym (length-map (below 10) (up_to n f) ∙ length_from 0 10))
      (λ k l. at k ∙ sym (value_at (up_to n f) 10 k 0 (omega (arith, r.long))))
    where
      at : (k : ℕ) → get_or xs k 0 ≡ up_to n f k
      at k = elim (dec_lt n k) [ yes h ↦ r.others k (omega arith) ∙ sym (up_to_past n f k h) | no h ↦ r.found k (omega arith) ∙ sym (up_to_here n f k (omega arith)) ]

-- the sum with one number more
summed_snoc : (t : ℕ → ℕ) (xs : List ℕ) (d : ℕ) → summed t (xs ++ (d ∷ [])) ≡ summed t xs + t d
unfolding summed
summed_snoc t [] d = omega arith
summed_snoc t (x ∷ xs) d = omega (arith, summed_snoc t xs d)

-- the sum over one degree more
pub summed_next : (t : ℕ → ℕ) (d : ℕ) → summed t (below (d + 1)) ≡ summed t (below d) + t d
summed_next t d = ap (summed t) (below_snoc d) ∙ summed_snoc t (below d) d

-- numbers that are equal for each member have equal sums
each_summed : (f g : ℕ → ℕ) (xs : List ℕ) → Each (λ d. f d ≡ g d) xs → summed f xs ≡ summed g xs
unfolding summed
each_summed f g [] h = refl
each_summed f g (x ∷ xs) h = ap₂ ◌+◌ h.0 (each_summed f g xs h.1)

module _ (n : ℕ) (f g : ℕ → ℕ) (same : (d : ℕ) → d ≤ n → f d ≡ g d) where
  -- functions that agree on the degrees up to n have the same numbers
  pub up_to_same : map (up_to n f) (below 10) ≡ map (up_to n g) (below 10)
  up_to_same = map_each (up_to n f) (up_to n g) (below 10) (member_each (λ d. up_to n f d ≡ up_to n g d) (below 10) (λ d m. here d))
    where
      here : (d : ℕ) → up_to n f d ≡ up_to n g d
      here d = elim (dec_lt n d) [
        | yes h ↦ up_to_past n f d h ∙ sym (up_to_past n g d h)
        | no h ↦ ap (number_if (leb d n)) (same d (omega arith))
      ]

  -- and the same sum
  pub summed_same : summed f (below (n + 1)) ≡ summed g (below (n + 1))
  summed_same = each_summed f g (below (n + 1)) (member_each (λ d. f d ≡ g d) (below (n + 1)) (λ d m. same d ((degree_below n d).0 m)))

-- the sum of three numbers for each member
pub summed_three : (f g h : ℕ → ℕ) (xs : List ℕ) → summed (λ x. f x + g x + h x) xs ≡ summed f xs + summed g xs + summed h xs
unfolding summed
summed_three f g h [] = omega arith
summed_three f g h (x ∷ xs) = omega (arith, summed_three f g h xs)
