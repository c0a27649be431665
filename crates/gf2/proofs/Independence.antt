-- Independence, said row by row.
--   Apart               no row is a sum of the rows after it
--   independent_apart   rows are independent just if none is a sum of the rows after it
--   independent_snoc    independent rows stay so with one more that is no sum of them
use mathlib.Core.Path.{◌≡◌, refl, sym, ap, ◌∙◌}
use mathlib.Core.Logic.{◌↔◌}
use mathlib.Core.Bool.{Bool, true, false, xor, ◌&&◌}
use mathlib.Core.List.{List, [], ◌∷◌, ◌++◌}
use Prim.Native.Nat.{ℕ, zero, suc}
use native.Mathlib.Omega.{arith}
use lib.ListN.{length, replicate, take, length-append, replicate-append-replicate}
use lib.Seq.{take-suc, take_all, length-take-le}
use Rattle.gf2.specs.Vector.{Row, entry, total, Choice, chosen, SumOf}
use Rattle.gf2.specs.Rank.{Independent}
use Rattle.gf2.proofs.Bits.{xor_self, xor_equal}
use Rattle.gf2.proofs.Dot.{entry_add, entry_add_if, same_zero}
use Rattle.gf2.proofs.Chosen.{total_snoc}

-- no row is a sum of the rows after it
abbrev pub Apart : List Row → Type 0
Apart [] = Unit {0}
Apart (r ∷ rs) = (¬ SumOf rs r) × Apart rs

-- a choice cut or continued to n places
fit : ℕ → Choice → Choice
fit zero c = []
fit (suc n) [] = false ∷ fit n []
fit (suc n) (b ∷ c) = b ∷ fit n c

-- it has n places
length_fit : (n : ℕ) (c : Choice) → length (fit n c) ≡ n
unfolding fit
length_fit zero c = refl
length_fit (suc n) [] = ap suc (length_fit n [])
length_fit (suc n) (b ∷ c) = ap suc (length_fit n c)

-- it chooses the same rows
chosen_fit : (c : Choice) (rs : List Row) → chosen (fit (length rs) c) rs ≡ chosen c rs
unfolding fit chosen
chosen_fit [] [] = refl
chosen_fit (b ∷ c) [] = refl
chosen_fit [] (r ∷ rs) = chosen_fit [] rs
chosen_fit (true ∷ c) (r ∷ rs) = ap {B = List Row} (λ l. r ∷ l) (chosen_fit c rs)
chosen_fit (false ∷ c) (r ∷ rs) = chosen_fit c rs

-- independent rows are apart
to_apart : (rs : List Row) → Independent rs → Apart rs
unfolding chosen total
to_apart [] h = tt
to_apart (r ∷ rs) h = (first, to_apart rs rest)
  where
    first : ¬ SumOf rs r
    first s =
        let c : Choice = fit (length rs) s.choice in
        let e : true ∷ c ≡ false ∷ replicate (length rs) false = h (true ∷ c)
        (ap suc (length_fit (length rs) s.choice)) (λ k. rw (entry_add, chosen_fit, s.sums k, xor_self)) in
        let z : ◌≡◌ {A = ℕ} 0 1 = cc in omega arith

    rest : Independent rs
    rest c l z = let e : false ∷ c ≡ false ∷ replicate (length rs) false = h (false ∷ c) (ap suc l) z in cc

-- rows apart are independent
from_apart : (rs : List Row) → Apart rs → Independent rs
unfolding chosen total
from_apart [] h [] l z = refl
from_apart [] h (b ∷ c) l z = absurd (omega arith)
from_apart (r ∷ rs) h [] l z = absurd (omega arith)
from_apart (r ∷ rs) h (true ∷ c) l z = absurd (h.0 (record { choice = c; sums = λ k. sym ((same_zero r (total (chosen c rs))).1 z k) }))
from_apart (r ∷ rs) h (false ∷ c) l z = ap {B = Choice} (λ t. false ∷ t) (from_apart rs h.1 c (omega arith) z)

-- rows are independent just if none is a sum of the rows after it
pub independent_apart : (rs : List Row) → Independent rs ↔ Apart rs
independent_apart rs = (to_apart rs, from_apart rs)

-- independent rows stay so with one more that is no sum of them
pub independent_snoc : (rs : List Row) → Independent rs → (v : Row) → ¬ SumOf rs v → Independent (rs ++ (v ∷ []))
independent_snoc rs ind v new c e z = go (entry c (length rs)) split
  where
    size : length c ≡ suc (length rs)
    size = omega (arith, length-append rs (v ∷ []))

    a : Choice
    a = take (length rs) c

    len : length a ≡ length rs
    len = length-take-le (length rs) c (omega (arith, size))

    split : c ≡ a ++ (entry c (length rs) ∷ [])
    split = sym (take_all (suc (length rs)) c (omega (arith, size))) ∙ take-suc c (length rs) false (omega (arith, size))

    part : (b : Bool) → c ≡ a ++ (b ∷ []) → (k : ℕ) → xor (entry (total (chosen a rs)) k) (b && entry v k) ≡ false
    part b s k = sym (ap (λ x. entry x k) (total_snoc a b rs v len) ∙ entry_add_if b (total (chosen a rs)) v k) ∙ rw (← s) (z k)

    go : (b : Bool) → c ≡ a ++ (b ∷ []) → c ≡ replicate (length (rs ++ (v ∷ []))) false
    go true s = absurd (new record { choice = a; sums = λ k. xor_equal _ _ (part true s k) })
    go false s =
        let none : a ≡ replicate (length rs) false = ind a len (λ k. xor_equal _ _ (part false s k)) in
        s ∙ ap (λ l. l ++ (false ∷ [])) none ∙ replicate-append-replicate (length rs) 1 false ∙ simp length-append
