-- One elimination serves every degree: its pivots below a number of columns count the rank there, its tally there sums to the additions, and the points of these pivots are those kept there.
use mathlib.Core.Path.{◌≡◌, refl, sym, ap, ◌∙◌, subst}
use Prim.Native.Nat.{◌+◌, ◌*◌, ◌≤◌}
use native.Mathlib.Omega.{arith}
use lib.ListN.{length, get_or, set, length-map}
use Rattle.cube.specs.NumberLists.{up_from, below, Inside}
use Rattle.cube.specs.Mask.{points}
use Rattle.packed.specs.Packed.{unpack, unpacked, zeros}
use Rattle.packed.proofs.Rows.{length_row}
use Rattle.matrix.proofs.Combining.{points_before}
use Rattle.matrix.proofs.Tallied.{tallied_kept}
use Rattle.matrix.proofs.KeptPoints.{kept_at_below, kept_at_small}
use Rattle.immunity.specs.Judgement.{summed}
use Rattle.degree_ranks.proofs.Degrees.{ValuesTo, values_none, values_next, values_all, up_to_same, summed_next, summed_same}
use Rattle.degree_ranks.proofs.mask_ranks.Invariants.{counted, tallied}
use Rattle.degree_ranks.proofs.mask_ranks.Goals as goal
use Rattle.degree_ranks.proofs.mask_ranks.Goals.{After-sum_below-additions}

pub eliminate_tallied-kept-requires : goal.eliminate_tallied-kept-requires
unfolding zeros
eliminate_tallied-kept-requires c = refl

pub loop-d-init : goal.loop-d-init
unfolding summed up_from
loop-d-init c = (values_none _, refl, omega arith)

-- what one degree more adds
turn : (c : After-sum_below-additions) → let a = c.args in let e = c.eliminate_tallied-kept in let d = c.loop-d.d in let m = c.loop-d.additions + c.sum_below-additions.result in
    ValuesTo (counted a.columns e.result e.new.pivots) (d + 1) (set c.loop-d.ranks d c.count_below.result) × (m ≡ summed (tallied a.columns e.new.tally) (below (d + 1))) × (m ≤ (d + 1) * 134217728)
turn c =
    let d = c.loop-d.d in
    let t = tallied c.args.columns c.eliminate_tallied-kept.new.tally in
    let few = c.requires.0 d in (
      values_next _ d c.loop-d.ranks _ (omega arith) c.count_below.ensures.0 c.loop-d.invariant.0,
      omega (arith, summed_next t d, c.loop-d.invariant.1, c.sum_below-additions.ensures.0),
      omega (arith, c.loop-d.invariant.2, c.sum_below-additions.ensures.1, few),
    )

pub loop-d-preserved : goal.loop-d-preserved
loop-d-preserved c = turn (goal.at.loop-d-preserved c).After-sum_below-additions

pub returns-2 : goal.returns-2
returns-2 c =
    let a = c.args in
    let e = c.eliminate_tallied-kept in
    let h = e.ensures in
    let d = c.loop-d.d in
    let t = unpacked a.ws.now in
    let t' = unpacked e.new.ws in
    let ps = points a.mask.now in
    let here : d ≡ a.n = omega arith in
    let last = turn (goal.at.returns-2 c).After-sum_below-additions in
    let inside : Inside 512 ps = subst (λ m. Inside m ps) c.told-mask (points_before a.mask.now (length a.mask.now)) in
    record {
      ranks = values_all _ a.n d _ here last.0
          ∙ up_to_same a.n _ _ (λ i l. tallied_kept t ps t' e.result e.new.tally h.eliminates_all e.new.pivots (omega arith) (omega (arith, length-map e.new.ws unpack)) (length_row e.new.ws) h.bounds.0 h.pivots (get_or a.columns i 0));
      additions = last.1 ∙ ap (λ i. summed (tallied a.columns e.new.tally) (below (i + 1))) here ∙ summed_same a.n _ _ (λ i l. sym (h.eliminates_all.additions (get_or a.columns i 0)));
      additions_bound_and_point_rows = (omega (arith, last.2), h.eliminates_all.stays);
      kept_below = (h.bounds.0, kept_at_small t 512 ps e.result e.new.points h.kept_at (omega arith) inside);
      kept_of_each_width = kept_at_below t t' ps e.result e.new.tally e.new.pivots h.eliminates_all (length_row e.new.ws) (omega (arith, length-map e.new.ws unpack)) h.pivots e.new.points h.kept_at (omega arith)
          (length_row a.ws.now) (omega (arith, length-map a.ws.now unpack)) inside;
    }
