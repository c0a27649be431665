-- Whether a list names each tap, by the library's tests of every and of some member.
--   any_lists      a number stands in a list just if some member equals it
--   wiring_named   a list of n entries is a wiring just if it names one more than each number below n
use mathlib.Core.Path.{◌≡◌, refl, sym, ap, ap₂, ◌∙◌}
use mathlib.Core.Bool.{◌&&◌, ◌||◌}
use mathlib.Core.List.{List, [], ◌∷◌}
use Prim.Native.Nat.{ℕ, zero, suc, ◌+◌}
use native.Mathlib.Numerals.{add-one}
use lib.Dec.{eqb}
use lib.ListN.{length}
use borrow.Author.Tests.{eq-eqb}
use Rattle.std.specs.List.{list_any, list_all, range_with_len}
use Rattle.cube.specs.NumberLists.{up_from, lists}
use Rattle.wiring.specs.Wiring.{names_all, is_wiring}

-- a number stands in a list just if some member equals it
pub any_lists : (xs : List ℕ) (t : ℕ) → list_any (λ x. eqb x t) xs ≡ lists xs t
unfolding lists
any_lists [] t = refl
any_lists (x ∷ xs) t = ap (λ b. eqb x t || b) (any_lists xs t)

-- one more than each number from k on is named
named_from : (ts : List ℕ) (k n : ℕ) → names_all ts (up_from (k + 1) n) ≡ list_all (λ j. lists ts (j + 1)) (range_with_len k n)
unfolding names_all up_from
named_from ts k zero = refl
named_from ts k (suc n) = ap (λ b. lists ts (k + 1) && b) (ap (λ j. names_all ts (up_from j n)) (sym (add-one (k + 1))) ∙ named_from ts (k + 1) n)

-- a list of n entries is a wiring just if it names one more than each number below n
pub wiring_named : (ts : List ℕ) (n : ℕ) → length ts ≡ n → is_wiring n ts ≡ list_all (λ k. lists ts (k + 1)) (range_with_len 0 n)
unfolding is_wiring
wiring_named ts n e = ap₂ ◌&&◌ (eq-eqb (length ts) n e) (named_from ts 0 n)
