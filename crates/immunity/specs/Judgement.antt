-- What Judge answers and leaves. The table is seen through the parts only.
--   EqualRanks o n s f side d   the set and the side's part have the same rank at degree d
--   differs o n s f d side      at degree d the rank of the side's part is not that of the set
--   either_differs ..           one of the two sides differs
--   reported o n s f            the first degree at which a side differs, or none
--   side_degree o n s f side    a side's own degree: the first at which that side differs, or none
--   ranks_at o n s f d          the ranks of the set, part 1 and part 0 at a degree; all 0 past n
--   side_at .. k                the side for the reported degree: 1 if side 1 differs there, else 0; none where no degree is reported
--   additions_at                the additions of the three eliminations at a degree
--   summed t xs                 the sum of t over a list
--   witness_bytes .. k side     the witness buffer of a side for the reported degree: zeros where the side does not differ, or no degree is reported
--   kept_bytes o n s k          the mask of the kept points of the set for the reported degree: zeros where there is none
--   Judgement, judged           all of it
--   set_rank j d                the rank of the set at degree d that a judgement gives
--   part_ranks j d              those of the parts, one for each side
--   GivenEqual j side d         the two ranks that the judgement j gives for a side at degree d are equal
use Rattle.std.specs.Prelude.{◌≡◌, Bool, false, not, ◌||◌, List, [], ◌∷◌, map, ℕ, ◌+◌, eqb, get_or, Option, None, Some}
use Rattle.std.specs.List.{find}
use Rattle.cube.specs.NumberLists.{below}
use Rattle.cube.specs.Mask.{points, byte, mask}
use Rattle.filter.specs.Sides.{Sides, of_side, both_sides}
use Rattle.filter.specs.Part.{part, both_parts}
use Rattle.matrix.specs.Matrix.{rank_of}
use Rattle.matrix.specs.Kept.{kept_mask}
use Rattle.immunity.specs.declared.Ranks.{Ranks}
use Rattle.immunity.specs.Ranks.{no_ranks, ranks_if, parts, ranks_up_to, additions_of}
use Rattle.immunity.specs.Mark.{mark_of}
use Rattle.immunity.specs.Witness.{witness_at}

-- the set and the part of the side have the same rank at degree d
abbrev pub EqualRanks : List ℕ → ℕ → List ℕ → List ℕ → ℕ → ℕ → Type 0
EqualRanks o n s f side d = rank_of o n d (points s) ≡ rank_of o n d (part side s f)

-- the pair of a side differs at a degree
unfoldable pub differs : List ℕ → ℕ → List ℕ → List ℕ → ℕ → ℕ → Bool
differs o n s f d side = not (eqb (rank_of o n d (points s)) (rank_of o n d (part side s f)))

-- one of the two differs
abbrev pub either_differs : List ℕ → ℕ → List ℕ → List ℕ → ℕ → Bool
either_differs o n s f d = differs o n s f d 1 || differs o n s f d 0

-- the first degree up to n at which a side differs
unfoldable pub reported : List ℕ → ℕ → List ℕ → List ℕ → Option ℕ
unfolding differs
reported o n s f = find (either_differs o n s f) (below (n + 1))

-- the first degree up to n at which the side differs
unfoldable pub side_degree : List ℕ → ℕ → List ℕ → List ℕ → ℕ → Option ℕ
unfolding differs
side_degree o n s f side = find (λ d. differs o n s f d side) (below (n + 1))

-- the ranks at a degree, all 0 past n
unfoldable pub ranks_at : List ℕ → ℕ → List ℕ → List ℕ → ℕ → Ranks
unfolding ranks_if
ranks_at o n s f d = ranks_up_to o n (points s) (both_parts s f) d

-- the side for the reported degree, or none
unfoldable pub side_at : List ℕ → ℕ → List ℕ → List ℕ → Option ℕ → Option ℕ
unfolding differs
side_at o n s f None = None
side_at o n s f (Some k) = Some (byte (differs o n s f k 1))

-- the additions at a degree
unfoldable pub additions_at : List ℕ → ℕ → List ℕ → List ℕ → ℕ → ℕ
additions_at o n s f d = additions_of o n d (points s) (both_parts s f)

-- the sum of a number for each member
unfoldable pub summed : (ℕ → ℕ) → List ℕ → ℕ
summed t [] = 0
summed t (x ∷ xs) = t x + summed t xs

-- the witness buffer of a side for the reported degree
unfoldable pub witness_bytes : List ℕ → ℕ → List ℕ → List ℕ → Option ℕ → ℕ → List ℕ
unfolding witness_at
witness_bytes o n s f None side = mask (λ u. false)
witness_bytes o n s f (Some k) side = mask (witness_at o n k (points s) (part side s f))

-- the mask of the kept points of the set for the reported degree
unfoldable pub kept_bytes : List ℕ → ℕ → List ℕ → Option ℕ → List ℕ
unfolding kept_mask
kept_bytes o n s None = mask (λ u. false)
kept_bytes o n s (Some k) = kept_mask o n k (points s)

-- what Judge answers, and leaves in the two witness buffers and in the mask of kept points
pub record Judgement : Type 0 where
  pub ranks : List Ranks
  pub mark : Option ℕ
  pub degree : Option ℕ
  pub side : Option ℕ
  pub degrees : Sides (Option ℕ)
  pub additions : ℕ
  pub witnesses : Sides (List ℕ)
  pub kept : List ℕ

-- the judgement of a set and a table
unfoldable pub judged : List ℕ → ℕ → List ℕ → List ℕ → Judgement
unfolding mark_of reported side_degree ranks_at side_at additions_at summed witness_bytes kept_bytes
judged o n s f =
    let k : Option ℕ = reported o n s f in
    record {
      ranks = map (ranks_at o n s f) (below 10);
      mark = mark_of o n s;
      degree = k;
      side = side_at o n s f k;
      degrees = both_sides (side_degree o n s f);
      additions = summed (additions_at o n s f) (below (n + 1));
      witnesses = both_sides (witness_bytes o n s f k);
      kept = kept_bytes o n s k;
    }

-- the rank of the set at a degree
abbrev pub set_rank : Judgement → ℕ → ℕ
set_rank j d = (get_or j.ranks d no_ranks).set

-- the ranks of the parts at a degree
abbrev pub part_ranks : Judgement → ℕ → Sides ℕ
part_ranks j d = parts (get_or j.ranks d no_ranks)

-- the two ranks that the judgement gives, of the set and of the side's part, are equal
abbrev pub GivenEqual : Judgement → ℕ → ℕ → Type 0
GivenEqual j side d = set_rank j d ≡ of_side side (part_ranks j d)
