-- Certificates: docs/SPECIFICATION.md, 'Certificate'. For each point of the set outside the part, points of the part
-- whose rows sum to its row.
--   bit_of c a q                 bit q of the row of the point a in the certificate c: of its eight numbers from 8 a
--   named c a                    this row, over points
--   Names o n d ss ps qs c       c names, for each point of ss outside ps, points of qs whose rows sum to its row, and nothing else
--   Certifies o n d ss ps c      the same with points of ps: a certificate, whoever made it
--   IsCertificate ..             the same with kept points of ps: the certificate that Certify writes
--   sum_of o n d ps a            the kept points of ps whose rows sum to the row of a, where it is a sum of theirs, as a row over points
--   row_if b x                   the row x, or none
--   sum_if ..                    the row of a point in the certificate that Certify writes
--   number_at x i                number i of the rows x: 64 bits of row i / 8, from bit 64 (i mod 8) on
--   certificate o n s f side d   the 4,096 numbers that Certify writes
use Rattle.std.specs.Prelude.{Bool, true, false, ◌≡◌, List, [], map, ℕ, ◌+◌, ◌*◌, ◌/◌, ◌%◌, ◌^◌, ◌<◌, eqb, length, get_or, take, drop}
use Rattle.cube.specs.NumberLists.{below}
use Rattle.cube.specs.Mask.{points}
use Rattle.gf2.specs.Vector.{Row, Zero, chosen, total}
use Rattle.gf2.specs.Elimination.{reduce}
use Rattle.gf2.specs.Points.{Expresses}
use Rattle.packed.specs.Packed.{number}
use Rattle.point_rows.specs.Rows.{row}
use Rattle.matrix.specs.Matrix.{eliminated}
use Rattle.filter.specs.Part.{part}
use Rattle.filter.specs.Outside.{Outside, is_outside}

-- bit q mod 64, from the lowest, of number q / 64 of the eight from 8 a
unfoldable pub bit_of : List ℕ → ℕ → ℕ → Bool
bit_of c a q = eqb (get_or c (8 * a + q / 64) 0 / 2 ^ (q % 64) % 2) 1

-- the row of a point in a certificate
abbrev pub named : List ℕ → ℕ → Row
named c a = map (bit_of c a) (below 512)

-- for each point of ss outside ps the points named are of qs and their rows sum to its row; for no other point is any named
pub record Names (o : List ℕ) (n d : ℕ) (ss ps qs c : List ℕ) : Type 0 where
  pub long : length c ≡ 4096
  pub sums : (a : ℕ) → Outside ss ps a → Expresses (row o n d) qs (named c a) (row o n d a)
  pub others : (a : ℕ) → a < 512 → ¬ Outside ss ps a → Zero (named c a)

-- a certificate, whoever made it: the points named are of the part
abbrev pub Certifies : List ℕ → ℕ → ℕ → List ℕ → List ℕ → List ℕ → Type 0
Certifies o n d ss ps c = Names o n d ss ps ps c

-- the certificate that Certify writes: the points named are kept points of the part
abbrev pub IsCertificate : List ℕ → ℕ → ℕ → List ℕ → List ℕ → List ℕ → Type 0
IsCertificate o n d ss ps c = Names o n d ss ps (eliminated o n d ps).points c

-- the kept points of ps whose rows sum to the row of a
unfoldable pub sum_of : List ℕ → ℕ → ℕ → List ℕ → ℕ → Row
sum_of o n d ps a = total (chosen (reduce (eliminated o n d ps).kept (row o n d a)).added (eliminated o n d ps).combinations)

-- a row, or none
unfoldable pub row_if : Bool → Row → Row
row_if true x = x
row_if false x = []

-- the row of a point: its sum for a point of the set outside the part
unfoldable pub sum_if : List ℕ → ℕ → ℕ → List ℕ → List ℕ → ℕ → Row
unfolding row_if sum_of is_outside
sum_if o n d ss ps a = row_if (is_outside ss ps a) (sum_of o n d ps a)

-- 64 bits of row i / 8, from bit 64 (i mod 8) on
abbrev pub number_at : (ℕ → Row) → ℕ → ℕ
number_at x i = number (take 64 (drop (64 * (i % 8)) (x (i / 8))))

-- eight numbers for each of 512 points
unfoldable pub certificate : List ℕ → ℕ → List ℕ → List ℕ → ℕ → ℕ → List ℕ
unfolding sum_if
certificate o n s f side d = map (number_at (sum_if o n d (points s) (part side s f))) (below 4096)
