-- What bytes after those of a number change: nothing, where a refusal has a number that is not 2.
--   Stands k p         k is the number of a refusal of files, and the outcome p is refused by it too, unless it is 2
--   Continued Q o p    a refusal by the outcome o stands in the outcome p; what o accepts has Q in p
--   Longer t d p       the outcome p draws what d does, and leaves the bytes t besides
--   continued_draw     one value after another
--   continued_after    a check that the bytes besides do not change
--   varint_continued   a number
use mathlib.Core.Path.{◌≡◌, refl}
use mathlib.Core.Bool.{Bool, true, false}
use mathlib.Core.List.{List, [], ◌∷◌, ◌++◌}
use Prim.Native.Nat.{ℕ, ◌≤◌}
use native.Mathlib.Omega.{arith}
use lib.Dec.{ltb, leb}
use Rattle.refusal.specs.declared.Refusal.{Refusal}
use Rattle.refusal.specs.declared.Refusal.TheVariants.{FileEnds, NumberForm}
use Rattle.refusal.specs.Refusal.{number_of}
use Rattle.refusal.specs.Outcome.{Outcome, refused, accepted, ◌otherwise◌, after}
use Rattle.varint.specs.Drawn.{Drawn, ◌leaving◌, draw}
use Rattle.varint.specs.Varint.{second_group, groups, varint}

-- the number of a refusal, from 2 to 7, by which another outcome is refused too, unless it is 2
pub record Stands {A : Type 0} (k : ℕ) (p : Outcome A) : Type 0 where
  pub low : 2 ≤ k
  pub high : k ≤ 7
  pub named : (x : Refusal) × (k ≡ number_of x)
  pub same : (k ≡ 2 → ⊥) → p ≡ refused k

-- what is refused is refused in another outcome too, and what is accepted has a property there
abbrev pub Continued : {A : Type 0} → (A → Outcome A → Type 0) → Outcome A → Outcome A → Type 0
Continued Q (refused k) p = Stands k p
Continued Q (accepted a) p = Q a p

-- the same value, leaving bytes besides
abbrev pub Longer : {A : Type 0} → List ℕ → Drawn A → Outcome (Drawn A) → Type 0
Longer t (v leaving rest) p = p ≡ accepted (v leaving (rest ++ t))

-- one value after another
pub continued_draw : {A B : Type 0} (Q : B → Outcome B → Type 0) (t : List ℕ) (f : A → List ℕ → Outcome B) (o p : Outcome (Drawn A))
    → Continued (Longer t) o p → ((v : A) (rest : List ℕ) → Continued Q (f v rest) (f v (rest ++ t))) → Continued Q (draw o f) (draw p f)
continued_draw Q t f (refused k) p h g = record { low = h.low; high = h.high; named = h.named; same = λ n. rw (h.same n) }
continued_draw Q t f (accepted (v leaving rest)) p h g = rw h (g v rest)

-- a check that the bytes besides do not change
pub continued_after : {A : Type 0} (Q : A → Outcome A → Type 0) (b : Bool) (r : Refusal) (o p : Outcome A) → 2 ≤ number_of r → number_of r ≤ 7
    → Continued Q o p → Continued Q (after (b otherwise r) o) (after (b otherwise r) p)
continued_after Q true r o p l u h = h
continued_after Q false r o p l u h = record { low = l; high = u; named = (r, refl); same = λ n. refl }

-- the end of a file
ended : {A : Type 0} (p : Outcome A) → Stands 2 p
ended p = record { low = omega arith; high = omega arith; named = (FileEnds, refl); same = λ n. absurd (n refl) }

-- a number
second_continued : (x : ℕ) (s t : List ℕ) → Continued (Longer t) (second_group x s) (second_group x (s ++ t))
unfolding second_group
second_continued x [] t = ended _
second_continued x (y ∷ s) t =
    continued_after (Longer t) (leb 1 y) NumberForm _ _ (omega arith) (omega arith)
    (continued_after (Longer t) (ltb y 128) NumberForm _ _ (omega arith) (omega arith) refl)

pub varint_continued : (s t : List ℕ) → Continued (Longer t) (varint s) (varint (s ++ t))
unfolding varint groups
varint_continued [] t = ended _
varint_continued (x ∷ s) t = go (ltb x 128)
  where
    go : (b : Bool) → Continued (Longer t) (groups b x s) (groups b x (s ++ t))
    go true = refl
    go false = second_continued x s t
