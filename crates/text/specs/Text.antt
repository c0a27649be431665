-- Texts as bytes.
--   Text                    a text: the ASCII code of each character
--   ascii s                 the bytes of a text that is written out
--   newline                 the byte that ends a line
--   digits k m              the decimal digits of m, the most significant first; k is at least the number of digits
--   decimal m               the decimal digits of m
--   field m                 a number after a space
--   labelled s m            a word, and a number after a space
--   joined t xs             the texts of the members of a list, one after the other
--   fields xs               numbers, each after a space
use Rattle.std.specs.Prelude.{cond, List, [], ◌∷◌, ◌++◌, ℕ, zero, suc, ◌+◌, ◌/◌, ◌%◌, ltb}
use Prim.Native.Char.{code}
use Prim.Native.String.{String}
use Prim.Native.String as S

-- a text
abbrev pub Text : Type 0
Text = List ℕ

-- the bytes of a text that is written out
unfoldable pub ascii : String → Text
ascii S.[] = []
ascii (S.◌∷◌ c s) = code c ∷ ascii s

-- the end of a line
abbrev pub newline : Text
newline = 10 ∷ []

-- the digits of the tenth of a number, then its last digit
unfoldable pub digits : ℕ → ℕ → Text
digits zero m = []
digits (suc k) m = cond (ltb m 10) [] (digits k (m / 10)) ++ ((48 + m % 10) ∷ [])

-- the decimal digits of a number
unfoldable pub decimal : ℕ → Text
unfolding digits
decimal m = digits (suc m) m

-- a number after a space
abbrev pub field : ℕ → Text
field m = 32 ∷ decimal m

-- a word, and a number after a space
abbrev pub labelled : String → ℕ → Text
labelled s m = ascii s ++ field m

-- the texts of the members of a list
unfoldable pub joined : (ℕ → Text) → List ℕ → Text
joined t [] = []
joined t (x ∷ xs) = t x ++ joined t xs

-- numbers, each after a space
abbrev pub fields : List ℕ → Text
fields xs = joined field xs
