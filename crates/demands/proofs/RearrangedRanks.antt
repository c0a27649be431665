-- The ranks of a rearranged filter.
--   rank_of_set           the rank of a mask stays
--   part_rank          and so does that of each part
--   rearranged_ranks   so a filter and the rearranged one have the same ranks, and as many points
use mathlib.Core.Path.{◌≡◌, sym}
use mathlib.Core.Bool.{true}
use mathlib.Core.List.{List}
use Prim.Native.Nat.{ℕ, ◌≤◌}
use Rattle.cube.specs.Mask.{well_formed, points}
use Rattle.cube.proofs.Masks.{points_inside}
use Rattle.order.specs.Order.{Graded}
use Rattle.filter.specs.Part.{part}
use Rattle.filter.proofs.PartPoints.{part_inside}
use Rattle.matrix.specs.Matrix.{rank_of}
use Rattle.immunity.proofs.SameJudged.{SameRanks}
use Rattle.wiring.specs.Wiring.{Wiring, rewired}
use Rattle.wiring.proofs.Wirings.{moves}
use Rattle.wiring.proofs.Rewired.{rewired_points, rewired_part, back_point, back_part}
use Rattle.wiring.proofs.Lengths.{set_count}
use Rattle.demands.proofs.MovedRanks.{rank_images}

module _ {n : ℕ} {ts : List ℕ} (w : Wiring n ts) (small : n ≤ 9) {o : List ℕ} (g : Graded o) where
  -- the rank of a mask stays
  pub rank_of_set : (s : List ℕ) → well_formed n s ≡ true → (d : ℕ) → rank_of o n d (points (rewired n ts s)) ≡ rank_of o n d (points s)
  rank_of_set s formed d =
      rank_images g small d (moves w) (points s) (points (rewired n ts s)) (points_inside n s formed)
      (λ a i. ((rewired_points n ts s small a).0 i).1) (back_point w small s formed)

  -- and so does that of each part
  pub part_rank : (s f : List ℕ) → well_formed n s ≡ true → well_formed n f ≡ true → (side d : ℕ)
      → rank_of o n d (part side (rewired n ts s) (rewired n ts f)) ≡ rank_of o n d (part side s f)
  part_rank s f formed table side d =
      rank_images g small d (moves w) (part side s f) (part side (rewired n ts s) (rewired n ts f)) (part_inside side _ s f (points_inside n s formed))
      (λ a i. ((rewired_part n ts s f small table side a).0 i).1) (back_part w small s f formed table side)

  -- so a filter and the rearranged one have the same ranks, and as many points
  pub rearranged_ranks : (s f : List ℕ) → well_formed n s ≡ true → well_formed n f ≡ true → SameRanks o o n s f (rewired n ts s) (rewired n ts f)
  rearranged_ranks s f formed table = record {
    set = λ d. sym (rank_of_set s formed d);
    parts = λ side d. sym (part_rank s f formed table side d);
    count = sym (set_count w small s formed);
  }
