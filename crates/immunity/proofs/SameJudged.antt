-- Filters of the same ranks have the same judgement, but for additions, witnesses and kept points.
--   SameRanks o q n s f s' f'   in the orders o and q the sets s and s' have the same ranks, and so have their parts by the tables f and f'; s and s' have as many points
--   same_judged                 then the judgements have the same ranks, mark, degree, side and sides' own degrees
use mathlib.Core.Path.{◌≡◌, refl, ap, ap₂, ◌∙◌, fun_ext}
use mathlib.Core.Bool.{Bool, not, ◌||◌}
use mathlib.Core.List.{List, map}
use Rattle.std.specs.Prelude.{Option, None, Some}
use Rattle.std.specs.List.{find}
use Prim.Native.Nat.{ℕ, ◌+◌}
use lib.Dec.{eqb, leb}
use lib.ListN.{length}
use Rattle.cube.specs.NumberLists.{below}
use Rattle.cube.specs.Mask.{points, byte}
use Rattle.filter.specs.Sides.{pair}
use Rattle.filter.specs.Part.{part}
use Rattle.matrix.specs.Matrix.{rank_of}
use Rattle.immunity.specs.declared.Ranks.{Ranks}
use Rattle.immunity.specs.Ranks.{ranks_if}
use Rattle.immunity.specs.Mark.{twice_exceeds, mark_of}
use Rattle.immunity.specs.Judgement.{differs, reported, side_degree, ranks_at, side_at, judged}
use Rattle.immunity.specs.SameJudged.{SameJudged}

-- the same ranks of set and parts at every degree, and as many points
pub record SameRanks (o q : List ℕ) (n : ℕ) (s f s' f' : List ℕ) : Type 0 where
  pub set : (d : ℕ) → rank_of o n d (points s) ≡ rank_of q n d (points s')
  pub parts : (side d : ℕ) → rank_of o n d (part side s f) ≡ rank_of q n d (part side s' f')
  pub count : length (points s) ≡ length (points s')

-- a line of ranks
abbrev line : Bool → ℕ → ℕ → ℕ → Ranks
line b x y z = ranks_if b (record { set = x; one = y; zero = z })

module _ {o q : List ℕ} {n : ℕ} {s f s' f' : List ℕ} (h : SameRanks o q n s f s' f') where
  -- the same degrees at which a side differs
  same_differs : (d side : ℕ) → differs o n s f d side ≡ differs q n s' f' d side
  unfolding differs
  same_differs d side = ap₂ (λ x y. not (eqb x y)) (h.set d) (h.parts side d)

  -- the same reported degree
  same_degree : reported o n s f ≡ reported q n s' f'
  unfolding reported
  same_degree = ap (λ (t : ℕ → Bool). find t (below (n + 1))) (fun_ext (λ d. ap₂ ◌||◌ (same_differs d 1) (same_differs d 0)))

  -- the same degree of each side
  same_own : (side : ℕ) → side_degree o n s f side ≡ side_degree q n s' f' side
  unfolding side_degree
  same_own side = ap (λ (t : ℕ → Bool). find t (below (n + 1))) (fun_ext (λ d. same_differs d side))

  -- the same side
  same_side : (k : Option ℕ) → side_at o n s f k ≡ side_at q n s' f' k
  unfolding side_at
  same_side None = refl
  same_side (Some k) = ap (λ b. Some (byte b)) (same_differs k 1)

  -- the same mark
  same_mark : mark_of o n s ≡ mark_of q n s'
  unfolding mark_of
  same_mark = ap (λ (t : ℕ → Bool). find t (below (n + 1))) (fun_ext (λ d. ap₂ twice_exceeds (h.set d) h.count))

  -- the same ranks at a degree
  same_ranks : (d : ℕ) → ranks_at o n s f d ≡ ranks_at q n s' f' d
  unfolding ranks_at
  same_ranks d =
      ap (λ x. line (leb d n) x (rank_of o n d (part 1 s f)) (rank_of o n d (part 0 s f))) (h.set d)
      ∙ ap₂ (λ y z. line (leb d n) (rank_of q n d (points s')) y z) (h.parts 1 d) (h.parts 0 d)

  -- the same judgement, but for additions, witnesses and kept points
  pub same_judged : SameJudged (judged o n s f) (judged q n s' f')
  unfolding judged
  same_judged = record {
    ranks = ap (λ (t : ℕ → Ranks). map t (below 10)) (fun_ext same_ranks);
    mark = same_mark;
    degree = same_degree;
    side = same_side (reported o n s f) ∙ ap (side_at q n s' f') same_degree;
    degrees = ap₂ pair (same_own 1) (same_own 0);
  }
