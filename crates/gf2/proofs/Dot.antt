-- Entries and parities of sums of rows.
--   add_nil            nothing is added
--   add_assoc          sums are regrouped
--   entry_add          an entry of a sum is the sum of the entries
--   entry_add_if       an entry where a row is added, or not
--   same_zero          rows agree just if their sum is zero
--   add_dot            the parity of a sum with a row is the sum of the parities
--   dot_comm           it does not matter which row is first
--   dot_add            the parity of a row with a sum is the sum of the parities
--   dot_apart          rows with no common one are even
--   zero_cons          a zero before a zero row
--   dot_zero           all rows are even with a zero row
--   dot_unit           the parity with a unit row is an entry
--   entry_unit         a unit row has its one
--   entry_unit_other   a unit row has no other one
--   entry_unit_is      each entry of a unit row
--   Linear f           a function of rows that takes sums to sums
--   linear_zero        linear functions are zero at zero
--   linear_same        for linear functions only the entries matter
--   zero_linear        zero is linear
--   entry_linear       the entries of a column are linear
--   dot_linear         the parities with a row are linear
use mathlib.Core.Path.{◌≡◌, refl, sym, ap, ◌∙◌}
use mathlib.Core.Logic.{◌↔◌, ◌≢◌}
use mathlib.Core.Bool.{Bool, false, true, xor, ◌&&◌, and_comm, and-false}
use mathlib.Core.List.{[], ◌∷◌}
use Prim.Native.Nat.{ℕ, zero, suc}
use lib.Dec.{eqb}
use borrow.Author.Tests.{eqb-true, eqb-false}
use Rattle.gf2.specs.Vector.{Row, entry, add, dot, unit, Zero, Same}
use Rattle.gf2.specs.Elimination.{add_if}
use Rattle.gf2.proofs.Bits.{bits, xor_false, false_xor, xor_self, xor_equal, xor_assoc}

-- nothing is added
pub add_nil : (v : Row) → add v [] ≡ v
unfolding add
add_nil [] = refl
add_nil (x ∷ v) = refl

-- sums are regrouped
pub add_assoc : (u v w : Row) → add (add u v) w ≡ add u (add v w)
unfolding add
add_assoc [] v w = refl
add_assoc (x ∷ u) [] w = refl
add_assoc (x ∷ u) (y ∷ v) [] = refl
add_assoc (x ∷ u) (y ∷ v) (z ∷ w) = rw (xor_assoc, add_assoc u v w)

-- an entry of a sum is the sum of the entries
pub entry_add : (v w : Row) (c : ℕ) → entry (add v w) c ≡ xor (entry v c) (entry w c)
unfolding add
entry_add [] w c = rw false_xor
entry_add (x ∷ v) [] c = rw xor_false
entry_add (x ∷ v) (y ∷ w) zero = refl
entry_add (x ∷ v) (y ∷ w) (suc c) = entry_add v w c

-- the entries where a row is added, or not
pub entry_add_if : (b : Bool) (v r : Row) (c : ℕ) → entry (add_if b v r) c ≡ xor (entry v c) (b && entry r c)
unfolding add_if
entry_add_if true v r c = entry_add v r c
entry_add_if false v r c = rw xor_false

-- rows agree just if their sum is zero
pub same_zero : (v w : Row) → Same v w ↔ Zero (add v w)
same_zero v w = (λ h c. rw (entry_add, h c, xor_self), λ z c. xor_equal _ _ (rw (← entry_add) (z c)))

-- the parity of a sum with a row is the sum of the parities
pub add_dot : (x y w : Row) → dot (add x y) w ≡ xor (dot x w) (dot y w)
unfolding dot add
add_dot [] y w = rw false_xor
add_dot (a ∷ x) [] w = rw xor_false
add_dot (a ∷ x) (b ∷ y) [] = simp bits
add_dot (a ∷ x) (b ∷ y) (c ∷ w) = simp (add_dot x y w, bits)

-- it does not matter which row is first
pub dot_comm : (v w : Row) → dot v w ≡ dot w v
unfolding dot
dot_comm [] [] = refl
dot_comm [] (b ∷ w) = refl
dot_comm (a ∷ v) [] = refl
dot_comm (a ∷ v) (b ∷ w) = simp (dot_comm v w, and_comm)

-- the parity of a row with a sum is the sum of the parities
pub dot_add : (x v w : Row) → dot x (add v w) ≡ xor (dot x v) (dot x w)
dot_add x v w = simp (dot_comm x) (add_dot v w x)

-- rows with no common one are even
pub dot_apart : (x w : Row) → ((c : ℕ) → entry x c && entry w c ≡ false) → dot x w ≡ false
unfolding dot
dot_apart [] w z = refl
dot_apart (a ∷ x) [] z = refl
dot_apart (a ∷ x) (b ∷ w) z = simp (z 0, dot_apart x w (λ c. z (suc c)), bits)

-- a zero before a zero row
pub zero_cons : (v : Row) → Zero v → Zero (false ∷ v)
zero_cons v z zero = refl
zero_cons v z (suc c) = z c

-- all rows are even with a zero row
pub dot_zero : (x v : Row) → Zero v → dot x v ≡ false
dot_zero x v z = dot_apart x v (λ c. simp (z c, and-false))

-- the parity with a unit row is an entry
pub dot_unit : (c : ℕ) (w : Row) → dot (unit c) w ≡ entry w c
unfolding dot unit
dot_unit zero [] = refl
dot_unit zero (b ∷ w) = rw xor_false
dot_unit (suc c) [] = refl
dot_unit (suc c) (b ∷ w) = rw false_xor (dot_unit c w)

-- a unit row has its one
pub entry_unit : (c : ℕ) → entry (unit c) c ≡ true
unfolding unit
entry_unit zero = refl
entry_unit (suc c) = entry_unit c

-- a unit row has no other one
pub entry_unit_other : (c d : ℕ) → c ≢ d → entry (unit c) d ≡ false
unfolding unit
entry_unit_other zero zero ne = absurd (ne refl)
entry_unit_other zero (suc d) ne = refl
entry_unit_other (suc c) zero ne = refl
entry_unit_other (suc c) (suc d) ne = entry_unit_other c d (λ e. ne (ap suc e))

-- each entry of a unit row
pub entry_unit_is : (c d : ℕ) → entry (unit c) d ≡ eqb c d
entry_unit_is c d = go (eqb c d) refl
  where
    go : (b : Bool) → eqb c d ≡ b → entry (unit c) d ≡ b
    go true e = rw (← eqb-true c d e) (entry_unit c)
    go false e = entry_unit_other c d (eqb-false c d e)

-- a function of rows that takes sums to sums
pub record Linear (f : Row → Bool) : Type 0 where
  pub none : f [] ≡ false
  pub both : (v w : Row) → f (add v w) ≡ xor (f v) (f w)

-- a zero row is its own double
add_self : (v : Row) → Zero v → add v v ≡ v
unfolding add
add_self [] z = refl
add_self (b ∷ v) z = cc (xor_self b, z 0, add_self v (λ c. z (suc c)))

-- linear functions are zero at zero
pub linear_zero : {f : Row → Bool} → Linear f → (v : Row) → Zero v → f v ≡ false
linear_zero {f} l v z = ap f (sym (add_self v z)) ∙ l.both v v ∙ xor_self (f v)

-- for linear functions only the entries matter
pub linear_same : {f : Row → Bool} → Linear f → (v w : Row) → Same v w → f v ≡ f w
linear_same {f} l v w h = xor_equal (f v) (f w) (sym (l.both v w) ∙ linear_zero l (add v w) ((same_zero v w).0 h))

-- zero is linear
pub zero_linear : Linear (λ v. false)
zero_linear = record { none = refl; both = λ v w. sym (xor_self false) }

-- the entries of a column are linear
pub entry_linear : (k : ℕ) → Linear (λ v. entry v k)
entry_linear k = record { none = refl; both = λ v w. entry_add v w k }

-- the parities with a row are linear
pub dot_linear : (x : Row) → Linear (dot x)
dot_linear x = record { none = dot_zero x [] (λ c. refl); both = dot_add x }
