-- The ranks that Judge gives at a degree.
--   ranks_given     all three
--   set_given       that of the set
--   part_given      that of a side's part
--   equal_given     they are equal exactly where the ranks are
use mathlib.Core.Path.{◌≡◌, sym, ap, ◌∙◌}
use mathlib.Core.Logic.{◌↔◌}
use mathlib.Core.List.{List}
use Prim.Native.Nat.{ℕ, ◌≤◌}
use native.Mathlib.Omega.{arith}
use lib.ListN.{get_or}
use borrow.Author.Tests.{le-leb}
use Rattle.cube.specs.Mask.{points}
use Rattle.cube.proofs.Masks.{value_at}
use Rattle.filter.specs.Sides.{of_side}
use Rattle.filter.specs.Part.{part, both_parts}
use Rattle.filter.proofs.Sides.{of_both}
use Rattle.matrix.specs.Matrix.{rank_of}
use Rattle.immunity.specs.declared.Ranks.{Ranks}
use Rattle.immunity.specs.Ranks.{no_ranks, ranks_if, parts, ranks_of}
use Rattle.immunity.specs.Judgement.{EqualRanks, ranks_at, judged, set_rank, part_ranks, GivenEqual}

module _ (o : List ℕ) (n : ℕ) (s f : List ℕ) (d : ℕ) (up : d ≤ n) (small : n ≤ 9) where
  -- the ranks that Judge gives at a degree
  pub ranks_given : get_or (judged o n s f).ranks d no_ranks ≡ ranks_of o n d (points s) (both_parts s f)
  unfolding judged ranks_at ranks_if
  ranks_given = value_at (ranks_at o n s f) 10 d no_ranks (omega arith) ∙ rw (le-leb d n up)

  -- that of the set
  pub set_given : set_rank (judged o n s f) d ≡ rank_of o n d (points s)
  set_given = ap (λ (r : Ranks). r.set) ranks_given

  -- that of a side's part
  pub part_given : (side : ℕ) → side ≤ 1 → of_side side (part_ranks (judged o n s f) d) ≡ rank_of o n d (part side s f)
  part_given side l = ap (λ (r : Ranks). of_side side (parts r)) ranks_given ∙ of_both (λ i. rank_of o n d (part i s f)) side l

  -- so they are equal exactly where the ranks are
  pub equal_given : (side : ℕ) → side ≤ 1 → GivenEqual (judged o n s f) side d ↔ EqualRanks o n s f side d
  equal_given side l = (λ e. sym set_given ∙ e ∙ part_given side l, λ e. set_given ∙ e ∙ sym (part_given side l))
