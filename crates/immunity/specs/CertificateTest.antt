-- Whether numbers are a certificate, whoever made it, as a test: docs/SPECIFICATION.md, 'Certificate' and 'Check'.
--   only_at qs s                the row s over points is one only at points of the list qs
--   expresses r qs s v          s is one only at points of qs, and the rows r of the points where it is one sum to v: `Expresses` as a test
--   right_row o n d ss ps c a   what c names for the point a is right: points of ps whose rows sum to its row if a is of ss and outside ps, else nothing
--   certifies o n d ss ps c     c is a certificate: `Certifies` as a test, where the points ss are below 512 (proofs/CertificateTest.antt, `certifies_says`)
use Rattle.std.specs.Prelude.{Bool, not, ◌&&◌, ◌||◌, cond, List, map, ℕ, eqb, length}
use Rattle.cube.specs.NumberLists.{lists, all_below}
use Rattle.gf2.specs.Vector.{Row, entry, add, total}
use Rattle.gf2.specs.Elimination.{is_zero}
use Rattle.gf2.specs.Points.{support}
use Rattle.point_rows.specs.Rows.{row}
use Rattle.filter.specs.Outside.{is_outside}
use Rattle.immunity.specs.Certificate.{named}

-- one only at points of the list
unfoldable pub only_at : List ℕ → Row → Bool
only_at qs s = all_below (length s) (λ q. not (entry s q) || lists qs q)

-- one only at points of the list, and the rows of the points where it is one sum to v
unfoldable pub expresses : (ℕ → Row) → List ℕ → Row → Row → Bool
expresses r qs s v = only_at qs s && is_zero (add v (total (map r (support s qs))))

-- for a point of the set outside the part, points of the part whose rows sum to its row; for any other, nothing
unfoldable pub right_row : List ℕ → ℕ → ℕ → List ℕ → List ℕ → List ℕ → ℕ → Bool
right_row o n d ss ps c a = cond (is_outside ss ps a) (expresses (row o n d) ps (named c a) (row o n d a)) (is_zero (named c a))

-- 4,096 numbers, and what they name for each of 512 points is right
unfoldable pub certifies : List ℕ → ℕ → ℕ → List ℕ → List ℕ → List ℕ → Bool
certifies o n d ss ps c = eqb (length c) 4096 && all_below 512 (right_row o n d ss ps c)
