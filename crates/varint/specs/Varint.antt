-- Varints, the house numbers of docs/SPECIFICATION.md, 'Terms' and 'Filter file': LEB128, one or two groups of
-- seven bits, the lowest first, in the shortest form.
--   Bytes s            each number of the list s is a byte
--   second_group x s   the number whose first byte is x, of two groups: its second byte is the first of the bytes s
--   groups last x s    the number whose first byte is x; `last` says whether that is its only group
--   varint s           the number that the bytes s begin with: refused by 2 or 3
--   shortest one v     the bytes of the number v in one group, or in two
--   encode_varint v    the bytes of the number v, below 2 to the power 14
--   outcome_of s r     what the code's answer r says of the bytes s of a file
use Rattle.std.specs.Prelude.{List, [], ◌∷◌, ℕ, ◌<◌, ◌+◌, ◌-◌, ◌*◌, ◌/◌, ◌%◌, Bool, true, false, leb, ltb, drop, Result, Ok, Err}
use Rattle.refusal.specs.declared.Refusal.{Refusal}
use Rattle.refusal.specs.declared.Refusal.TheVariants.{FileEnds, NumberForm}
use Rattle.refusal.specs.Refusal.{number_of}
use Rattle.refusal.specs.Outcome.{Outcome, refused, accepted, ◌otherwise◌, checked}
use Rattle.varint.specs.declared.Varint.{Varint}
use Rattle.varint.specs.Drawn.{Drawn, ◌leaving◌}

-- each number is a byte
abbrev pub Bytes : List ℕ → Type 0
Bytes [] = Unit {0}
Bytes (x ∷ s) = (x < 256) × Bytes s

-- the second byte of a number whose first byte is x: it is not 0, and its top bit is 0
unfoldable pub second_group : ℕ → List ℕ → Outcome (Drawn ℕ)
second_group x [] = refused (number_of FileEnds)
second_group x (y ∷ s) =
    checked (leb 1 y otherwise NumberForm ∷ ltb y 128 otherwise NumberForm ∷ []) (accepted ((x - 128 + 128 * y) leaving s))

-- a number whose first byte is x: the top bit is 0 just if this group is the last
unfoldable pub groups : Bool → ℕ → List ℕ → Outcome (Drawn ℕ)
groups true x s = accepted (x leaving s)
groups false x s = second_group x s

-- the number that the bytes begin with
unfoldable pub varint : List ℕ → Outcome (Drawn ℕ)
varint [] = refused (number_of FileEnds)
varint (x ∷ s) = groups (ltb x 128) x s

-- a number in one group, or in two
abbrev pub shortest : Bool → ℕ → List ℕ
shortest true v = v ∷ []
shortest false v = (128 + v % 128) ∷ (v / 128) ∷ []

-- one group where it is enough
unfoldable pub encode_varint : ℕ → List ℕ
encode_varint v = shortest (ltb v 128) v

-- what the code's answer says: the place after the number stands for the bytes from there on
abbrev pub outcome_of : List ℕ → Result Varint Refusal → Outcome (Drawn ℕ)
outcome_of s (Ok x) = accepted (x.value leaving drop x.next s)
outcome_of s (Err r) = refused (number_of r)
