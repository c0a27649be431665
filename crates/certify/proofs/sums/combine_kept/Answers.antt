-- The combinations over the kept points are those over the part (combined): where a sum is missing the ranks differ, else what is then written is the certificate.
use mathlib.Core.Path.{◌≡◌, refl, sym}
use mathlib.Core.Bool.{Bool, true, false}
use Prim.Native.Nat.{ℕ}
use lib.Dec.{eqb}
use borrow.Author.Tests.{eq-eqb, ne_eqb}
use Rattle.packed.specs.Packed.{unpacked}
use Rattle.certify.proofs.KeptSums.{Combined, combined}
use Rattle.certify.proofs.sums.combine_kept.Goals as goal
use Rattle.certify.proofs.sums.combine_kept.Goals.{After-eliminate_combining-rank}

-- what the combinations give
gives : (x : After-eliminate_combining-rank) → let a = x.args in
    Combined a.order.now.list a.n a.d a.set.now a.part.now x.column_count-columns.result x.eliminate_combining-rank.result (unpacked x.eliminate_combining-rank.new.ws) x.eliminate_combining-rank.new.places
gives x =
    let a = x.args in
    let width = x.column_count-columns.ensures in
    let h = x.eliminate_combining-rank.ensures in
    rw width (combined a.order.now.graded a.n a.d x.requires.0 x.requires.1 (unpacked a.ws.now) x.requires.4 a.set.now a.part.now a.kept.now x.requires.2 x.requires.3 x.requires.5
    (unpacked x.eliminate_combining-rank.new.ws) x.eliminate_combining-rank.result x.eliminate_combining-rank.new.places (rw width at h.combines) h.kept_at_most_points h.pivots.1)

pub combine_outside-requires : goal.combine_outside-requires
combine_outside-requires c =
    let g = gives (goal.at.combine_outside-requires c).After-eliminate_combining-rank in
    (g.few, c.eliminate_combining-rank.ensures.pivots.0, g.apart)

-- a test that says whether two numbers are equal
compared : (m r : ℕ) (z : Bool) → (z ≡ true → m ≡ r) → (z ≡ false → ¬ (m ≡ r)) → z ≡ eqb m r
compared m r true f g = sym (eq-eqb m r (f refl))
compared m r false f g = sym (ne_eqb m r (g refl))

pub returns-clause-ranks_equal : goal.returns-clause-ranks_equal
returns-clause-ranks_equal c =
    let g = gives (goal.at.returns-clause-ranks_equal c).After-eliminate_combining-rank in
    let h = c.combine_outside.ensures in
    compared _ _ _ (λ e. g.equal (unpacked c.combine_outside.new.ws) (h.sums e)) (λ e. g.differ (h.no_sum e))

pub returns-clause-certificate_written : goal.returns-clause-certificate_written
returns-clause-certificate_written c e =
    (gives (goal.at.returns-clause-certificate_written c).After-eliminate_combining-rank).written_is (unpacked c.combine_outside.new.ws) (c.combine_outside.ensures.sums e)
