-- The ranks of the points of a set and of its two parts.
--   no_ranks                   all 0
--   ranks_if b r               the given ranks, or all 0
--   parts r                    those of the parts, one for each side
--   ranks_of o n d ss ps       the ranks at degree d of the points ss and, for each side, of the points ps
--   ranks_up_to o n ss ps d    the same up to degree n, and all 0 past it
--   ranks_in ss ps d           the ranks at degree d that lists of ranks give
--   additions_of o n d ss ps   the additions of the three eliminations
--   part_differs r side        the rank of a side's part is not that of the set
--   differ r                   one of the two is not
--   flat rs                    the ranks at each degree as numbers: of the set, of part 1 and of part 0
use Rattle.std.specs.Prelude.{Bool, true, false, not, ◌||◌, List, [], ◌∷◌, ℕ, ◌+◌, eqb, leb, get_or}
use Rattle.filter.specs.Sides.{Sides, pair, of_side}
use Rattle.matrix.specs.Matrix.{eliminated, rank_of}
use Rattle.immunity.specs.declared.Ranks.{Ranks}

-- all 0
abbrev pub no_ranks : Ranks
no_ranks = record { set = 0; one = 0; zero = 0 }

-- the given ranks, or all 0
unfoldable pub ranks_if : Bool → Ranks → Ranks
ranks_if true r = r
ranks_if false r = no_ranks

-- those of the parts
abbrev pub parts : Ranks → Sides ℕ
parts r = pair r.one r.zero

-- the ranks of the set's points and of each part's at a degree
abbrev pub ranks_of : List ℕ → ℕ → ℕ → List ℕ → Sides (List ℕ) → Ranks
ranks_of o n d ss ps = record { set = rank_of o n d ss; one = rank_of o n d ps.one; zero = rank_of o n d ps.zero }

-- the same up to degree n, all 0 past it
abbrev pub ranks_up_to : List ℕ → ℕ → List ℕ → Sides (List ℕ) → ℕ → Ranks
ranks_up_to o n ss ps d = ranks_if (leb d n) (ranks_of o n d ss ps)

-- the ranks at a degree that lists give
abbrev pub ranks_in : List ℕ → Sides (List ℕ) → ℕ → Ranks
ranks_in ss ps d = record { set = get_or ss d 0; one = get_or ps.one d 0; zero = get_or ps.zero d 0 }

-- the additions of the three eliminations
abbrev pub additions_of : List ℕ → ℕ → ℕ → List ℕ → Sides (List ℕ) → ℕ
additions_of o n d ss ps = (eliminated o n d ss).additions + (eliminated o n d ps.one).additions + (eliminated o n d ps.zero).additions

-- the rank of a side's part is not that of the set
abbrev pub part_differs : Ranks → ℕ → Bool
part_differs r side = not (eqb r.set (of_side side (parts r)))

-- one of the two is not
abbrev pub differ : Ranks → Bool
differ r = part_differs r 1 || part_differs r 0

-- the ranks at each degree, one after the other
unfoldable pub flat : List Ranks → List ℕ
flat [] = []
flat (r ∷ rs) = r.set ∷ r.one ∷ r.zero ∷ flat rs
