-- Rows whose numbers are made one by one, by a function of the place.
--   made   the number at each place is what the function gives there
use mathlib.Core.Path.{◌≡◌, ◌∙◌, subst}
use mathlib.Core.List.{List}
use Prim.Native.Nat.{ℕ, zero, suc, ◌+◌, ◌≤◌, ◌<◌}
use native.Mathlib.Decide.{dec_lt}
use native.Mathlib.Omega.{arith}
use lib.ListN.{get_or}
use denote.Param.Members.{Mut, Called}
use Rattle.std.specs.Array.{IsFromFnResult, IsFromFnResultFrom}

module _ {F : Type 0} {g : Mut F (ℕ × Unit {0}) ℕ} {f : F} (h : ℕ → ℕ) (pure : (x r : ℕ) (q : F) → Called g f (x, tt) r q → (q ≡ f) × (r ≡ h x)) (ys : List ℕ) where
  -- the same of the n numbers from place i on
  made_from : (n i : ℕ) → IsFromFnResultFrom g f ys i n → (k : ℕ) → i ≤ k → k < i + n → get_or ys k 0 ≡ h k
  made_from zero i y k l m = absurd (omega arith)
  made_from (suc n) i (q, r, at, called, rest) k l m = elim (dec_lt i k) [
    | yes o ↦ made_from n (i + 1) (subst (λ p. IsFromFnResultFrom g p ys (i + 1) n) (pure i r q called).0 rest) k (omega arith) (omega arith)
    | no o ↦ let e : k ≡ i = omega arith in rw e (at.1 0 ∙ (pure i r q called).1)
  ]

  -- the number at each place is what the function gives there
  pub made : {n : ℕ} → IsFromFnResult g f ys n → (k : ℕ) → k < n → get_or ys k 0 ≡ h k
  made {n} r k l = made_from n 0 r.each k (omega arith) (omega arith)
