-- The lines of the printed sheet.
--   degree_field k           a degree, or `none`, after a space
--   refused_line k           the line for a refusal
--   first_line n c m         n, the number c of points of S, and the mark m, or `none`
--   rank_line d r            a degree, and the ranks of S, part 1 and part 0
--   rank_lines n rs          the rank lines, for each degree up to n
--   witness_fields side w    a side, and a witness, its exponents in graded order
--   side_fields side ws      the side, and that side's witness; nothing where there is no side
--   degree_line k side ws    the reported degree, or `none`, the side, and that side's witness
--   sides_line ks            each side's own degree, side 1's then side 0's
--   sum_line side a qs       a side, a point, and points whose rows sum to its row
--   sum_lines side c ps      the sums that a certificate states for points, rising within a sum
--   additions_line m         Judge's additions
use Rattle.std.specs.Prelude.{List, [], ◌++◌, ℕ, ◌+◌, get_or, Option, None, Some}
use Rattle.cube.specs.NumberLists.{below, select}
use Rattle.cube.specs.Mask.{member}
use Rattle.order.specs.BuiltIn.{graded}
use Rattle.filter.specs.Sides.{Sides, of_side}
use Rattle.immunity.specs.declared.Ranks.{Ranks}
use Rattle.immunity.specs.Ranks.{no_ranks}
use Rattle.immunity.specs.Certificate.{bit_of}
use Rattle.text.specs.Text.{Text, ascii, newline, decimal, field, labelled, joined, fields}

-- a degree, or `none`, after a space
abbrev pub degree_field : Option ℕ → Text
degree_field None = ascii " none"
degree_field (Some k) = field k

-- the line for a refusal
abbrev pub refused_line : ℕ → Text
refused_line k = labelled "refused" k ++ newline

-- n, the number of points of S, and the mark, or `none`
abbrev pub first_line : ℕ → ℕ → Option ℕ → Text
first_line n c m = labelled "n" n ++ labelled " points" c ++ (ascii " mark" ++ degree_field m) ++ newline

-- a degree, and the ranks of S, part 1 and part 0
abbrev pub rank_line : ℕ → Ranks → Text
rank_line d r = decimal d ++ field r.set ++ field r.one ++ field r.zero ++ newline

-- for each degree up to n
abbrev pub rank_lines : ℕ → List Ranks → Text
rank_lines n rs = joined (λ d. rank_line d (get_or rs d no_ranks)) (below (n + 1))

-- a side, and the exponents of a witness in graded order
abbrev pub witness_fields : ℕ → List ℕ → Text
witness_fields side w = labelled " side" side ++ ascii " witness" ++ fields (select (member w) graded)

-- the side and its witness, where there is a side
abbrev pub side_fields : Option ℕ → Sides (List ℕ) → Text
side_fields None ws = []
side_fields (Some side) ws = witness_fields side (of_side side ws)

-- the reported degree, the side and its witness; `degree none` alone where there is neither degree nor side
abbrev pub degree_line : Option ℕ → Option ℕ → Sides (List ℕ) → Text
degree_line k side ws = (ascii "degree" ++ degree_field k) ++ side_fields side ws ++ newline

-- side 1's own degree, then side 0's
abbrev pub sides_line : Sides (Option ℕ) → Text
sides_line ks = ascii "sides" ++ degree_field ks.one ++ degree_field ks.zero ++ newline

-- the points whose rows sum to the row of a
abbrev pub sum_line : ℕ → ℕ → List ℕ → Text
sum_line side a qs = labelled "side" side ++ labelled " point" a ++ ascii " sum" ++ fields qs ++ newline

-- the sums that a certificate states for points
abbrev pub sum_lines : ℕ → List ℕ → List ℕ → Text
sum_lines side c ps = joined (λ a. sum_line side a (select (bit_of c a) (below 512))) ps

-- Judge's additions
abbrev pub additions_line : ℕ → Text
additions_line m = labelled "additions" m ++ newline
