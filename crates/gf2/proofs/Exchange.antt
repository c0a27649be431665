-- Independent rows are no more than the rows that they are sums of (Steinitz).
--   exchange       independent rows that are sums of rs are no more than rs
--   units m        the unit rows of m columns
--   units_sum      a row that is zero from column m on is a sum of them
--   columns_most   independent rows of m columns are no more than m
use mathlib.Core.Path.{◌≡◌, refl, sym, ap, ◌∙◌}
use mathlib.Core.Bool.{Bool, true, false}
use mathlib.Core.List.{List, [], ◌∷◌}
use mathlib.Core.Logic.{◌⊎◌, inl, inr}
use Prim.Native.Nat.{ℕ, zero, suc, ◌≤◌}
use native.Mathlib.Decide.{ℕ_discrete}
use native.Mathlib.Omega.{arith}
use lib.ListN.{length, get_or-eq_default}
use Rattle.gf2.specs.Vector.{Row, entry, add, unit, Each, SumOf}
use Rattle.gf2.specs.Rank.{Independent}
use Rattle.gf2.proofs.Bits.{bits, xor_self}
use Rattle.gf2.proofs.Each.{each_map}
use Rattle.gf2.proofs.Dot.{entry_add, entry_unit, entry_unit_other}
use Rattle.gf2.proofs.Sums.{sum_zero, sum_same, sum_add, sum_later, sum_first, sum_cases, sum_with, sum_trans, sums_self}
use Rattle.gf2.proofs.Independence.{Apart, independent_apart}

-- rows apart, one fewer than bs, that are sums of bs and of rs; for the one fewer there is a spare, a sum of bs that takes r
record Shorter (r : Row) (rs bs : List Row) : Type 0 where
  left : List Row
  spare : Row
  apart : Apart left
  fewer : length bs ≡ suc (length left)
  within : Each (SumOf bs) left
  without : Each (SumOf rs) left
  spare_within : SumOf bs spare
  spare_with : SumOf rs (add spare r)

-- rows apart, sums of r ∷ rs, are sums of rs, or can be shorter
shorten : (r : Row) (rs bs : List Row) → Apart bs → Each (SumOf (r ∷ rs)) bs → Each (SumOf rs) bs ⊎ Shorter r rs bs
shorten r rs [] a h = inl tt
shorten r rs (b ∷ bs) a h = go (sum_cases h.0) (shorten r rs bs a.1 h.1)
  where
    -- a later spare, and b or b + spare is without r
    with_spare : (p : Shorter r rs bs) (q : Row) → SumOf bs q → SumOf rs (add b q) → Shorter r rs (b ∷ bs)
    with_spare p q s t = record {
      left = add b q ∷ p.left;
      spare = p.spare;
      apart = (λ u. a.0 (sum_same (λ k. simp (entry_add, bits)) (sum_add (sum_trans p.within u) s)), p.apart);
      fewer = ap suc p.fewer;
      within = (sum_add sum_first (sum_later s), each_map (λ v. sum_later) p.left p.within);
      without = (t, p.without);
      spare_within = sum_later p.spare_within;
      spare_with = p.spare_with;
    }

    go : SumOf rs b ⊎ SumOf rs (add b r) → Each (SumOf rs) bs ⊎ Shorter r rs bs → Each (SumOf rs) (b ∷ bs) ⊎ Shorter r rs (b ∷ bs)
    go (inl s) (inl t) = inl (s, t)
    go (inr s) (inl t) = inr (record {
      left = bs;
      spare = b;
      apart = a.1;
      fewer = refl;
      within = each_map (λ v. sum_later) bs (sums_self bs);
      without = t;
      spare_within = sum_first;
      spare_with = s;
    })
    go (inl s) (inr p) = inr (with_spare p [] (sum_zero (λ k. refl)) (sum_same (λ k. simp (entry_add, bits)) s))
    go (inr s) (inr p) = inr (with_spare p p.spare p.spare_within (sum_same (λ k. simp (entry_add, bits)) (sum_add s p.spare_with)))

-- rows apart that are sums of rs are no more than rs: one row of rs after the other is left out, for a spare each
apart_le : (rs bs : List Row) → Apart bs → Each (SumOf rs) bs → length bs ≤ length rs
apart_le [] [] a h = omega arith
apart_le [] (b ∷ bs) a h = absurd (a.0 (sum_trans tt h.0))
apart_le (r ∷ rs) bs a h = elim (shorten r rs bs a h) [
  | inl s ↦ omega (arith, apart_le rs bs a s)
  | inr p ↦ omega (arith, apart_le rs p.left p.apart p.without)
]

-- independent rows that are sums of rs are no more than rs
pub exchange : (rs bs : List Row) → Independent bs → Each (SumOf rs) bs → length bs ≤ length rs
exchange rs bs h = apart_le rs bs ((independent_apart bs).0 h)

-- the unit rows of m columns
unfoldable pub units : ℕ → List Row
units zero = []
units (suc m) = unit m ∷ units m

-- there are m
length_units : (m : ℕ) → length (units m) ≡ m
unfolding units
length_units zero = refl
length_units (suc m) = ap suc (length_units m)

-- a row that is zero from column m on is a sum of them
pub units_sum : (m : ℕ) (v : Row) → ((c : ℕ) → m ≤ c → entry v c ≡ false) → SumOf (units m) v
unfolding units
units_sum zero v z = sum_zero (λ c. z c (omega arith))
units_sum (suc m) v z = go (entry v m) refl (units_sum m v) (units_sum m (add v (unit m)))
  where
    -- the columns from m on, where column m is known
    from : (w : Row) → entry w m ≡ false → ((c : ℕ) → suc m ≤ c → entry w c ≡ false) → (c : ℕ) → m ≤ c → entry w c ≡ false
    from w e later c h = elim (ℕ_discrete m c) [ yes q ↦ ap (entry w) (sym q) ∙ e | no n ↦ later c (omega arith) ]

    go : (b : Bool) → entry v m ≡ b → (((c : ℕ) → m ≤ c → entry v c ≡ false) → SumOf (units m) v)
        → (((c : ℕ) → m ≤ c → entry (add v (unit m)) c ≡ false) → SumOf (units m) (add v (unit m))) → SumOf (unit m ∷ units m) v
    go true e without with_unit =
        sum_with (with_unit (from (add v (unit m)) (entry_add v (unit m) m ∙ rw (e, entry_unit, xor_self))
        (λ c h. entry_add v (unit m) c ∙ rw (z c h, entry_unit_other m c (λ q. omega arith), xor_self))))
    go false e without with_unit = sum_later (without (from v e z))

-- independent rows of m columns are no more than m
pub columns_most : (m : ℕ) (bs : List Row) → Independent bs → Each (λ r. length r ≤ m) bs → length bs ≤ m
columns_most m bs i h =
    omega (arith, length_units m, exchange (units m) bs i (each_map (λ r l. units_sum m r (λ c k. get_or-eq_default r false (omega arith))) bs h))
