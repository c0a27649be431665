-- The bits of any list of numbers in turn; of eight numbers they are the row that these hold.
--   in_turn u          the bits of the numbers of a list, 64 to a number
--   length_in_turn     a number holds 64 columns
--   entry_in_turn      a column is a bit of a number
--   unpack_in_turn     the row in eight numbers
use mathlib.Core.Path.{◌≡◌, refl, sym, ap, ◌∙◌}
use mathlib.Core.List.{List, [], ◌∷◌, ◌++◌}
use Prim.Native.Nat.{ℕ, ◌*◌, ◌/◌, ◌%◌, ◌^◌}
use lib.ListN.{length, get_or}
use Rattle.gf2.specs.Vector.{Row, entry}
use Rattle.packed.specs.Packed.{odd, bits_of, columns, unpack}
use Rattle.packed.proofs.Words.{length_columns, entry_listed}

-- the bits of the numbers of a list
unfoldable pub in_turn : List ℕ → Row
in_turn [] = []
in_turn (w ∷ u) = bits_of 64 w ++ in_turn u

-- the same by the places of the numbers
by_places : (u : List ℕ) → in_turn u ≡ columns (length u) (λ k. get_or u k 0)
unfolding columns in_turn
by_places [] = refl
by_places (w ∷ u) = ap (λ v. bits_of 64 w ++ v) (by_places u)

-- a number holds 64 columns
pub length_in_turn : (u : List ℕ) → length (in_turn u) ≡ length u * 64
length_in_turn u = ap length (by_places u) ∙ length_columns (length u) (λ k. get_or u k 0)

-- a column is a bit of a number
pub entry_in_turn : (u : List ℕ) (c : ℕ) → entry (in_turn u) c ≡ odd (get_or u (c / 64) 0 / 2 ^ (c % 64))
entry_in_turn u c = ap (λ v. entry v c) (by_places u) ∙ entry_listed u c

-- the row in eight numbers
pub unpack_in_turn : (u : List ℕ) → length u ≡ 8 → unpack u ≡ in_turn u
unpack_in_turn u h = ap (λ n. columns n (λ k. get_or u k 0)) (sym h) ∙ sym (by_places u)
