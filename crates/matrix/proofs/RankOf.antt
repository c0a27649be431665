-- The rank that elimination finds, and what Rank answers where it accepts.
--   rank_of_lem              the number of kept rows is the rank of the matrix of the points
--   rank_accepts         a mask that is well formed is accepted at each degree up to n, lent buffers of the right lengths
--   passed               what is accepted passed the checks, and is the definition's
--   rank_accepted        the rank is that of the matrix of the mask's points against the monomials up to the degree
--   additions_accepted   the additions are at most the formula's
use mathlib.Core.Path.{◌≡◌, refl, subst}
use mathlib.Core.Bool.{true}
use mathlib.Core.List.{List}
use Prim.Native.Nat.{ℕ, ◌+◌, ◌-◌, ◌*◌, ◌/◌, ◌≤◌}
use Rattle.std.specs.Prelude.{Ok}
use lib.ListN.{length}
use borrow.Author.Tests.{eq-eqb, le-leb}
use Rattle.refusal.specs.Outcome.{accepted}
use Rattle.refusal.specs.Verdict.{verdict}
use Rattle.refusal.proofs.Verdicts.{all_passed, verdict_passes, accepted_passes}
use Rattle.cube.specs.Cube.{taps}
use Rattle.cube.specs.Mask.{well_formed, points}
use Rattle.order.specs.Order.{Graded}
use Rattle.gf2.specs.Rank.{Rank}
use Rattle.gf2.proofs.Kept.{keeps_rank, additions_bound, additions_most}
use Rattle.point_rows.specs.Rows.{row, rows}
use Rattle.matrix.specs.Matrix.{eliminated, rank_of}
use Rattle.matrix.specs.Rank.{Ranking, ranking, rank_checks, rank_outcome}
use Rattle.matrix.proofs.AnyOrder.{rank_ordered}
use Rattle.matrix.proofs.Ranked.{rank_passed}

-- the number of kept rows is the rank of the matrix of the points
pub rank_of_lem : (o : List ℕ) (n d : ℕ) (ps : List ℕ) → Rank (rows o n d ps) (rank_of o n d ps)
unfolding eliminated
rank_of_lem o n d ps = keeps_rank (row o n d) ps

-- twice the additions, and the additions themselves, against m points
abbrev Few : ℕ → Ranking → Type 0
Few m r = (2 * r.additions + r.rank * (r.rank + 1) ≤ 2 * (m * r.rank)) × (r.additions ≤ m * r.rank - r.rank * (r.rank + 1) / 2)

-- elimination makes so few
few : (o : List ℕ) (n d : ℕ) (ps : List ℕ) → Few (length ps) (ranking o n d ps)
unfolding eliminated
few o n d ps = (additions_bound (row o n d) ps, additions_most (row o n d) ps)

-- a mask that is well formed is accepted at each degree up to n, lent buffers of the right lengths
pub rank_accepts : (o b : List ℕ) (n d : ℕ) → length b ≡ 512 → taps n ≡ true → well_formed n b ≡ true → d ≤ n → rank_outcome o b n d 8192 512 ≡ accepted (ranking o n d (points b))
unfolding rank_outcome
rank_accepts o b n d long tapped formed low =
    verdict_passes (rank_checks b n d 8192 512) _ (all_passed (rank_checks b n d 8192 512) (eq-eqb _ 512 long, (refl, (refl, (tapped, (formed, (le-leb d n low, tt)))))))

module _ (o b : List ℕ) (n d m l : ℕ) (r : Ranking) (e : rank_outcome o b n d m l ≡ accepted r) where
  -- the checks hold, and the values are the definition's
  pub passed : (verdict (rank_checks b n d m l) ≡ Ok tt) × (ranking o n d (points b) ≡ r)
  unfolding rank_outcome
  passed = let (holds, same) = accepted_passes (rank_checks b n d m l) _ r e in (holds, cc same)

  -- the rank is that of the matrix of the mask's points against the monomials up to the degree, in any graded order
  pub rank_accepted : Graded o → {o' : List ℕ} → Graded o' → Rank (rows o' n d (points b)) r.rank
  rank_accepted g {o'} g' =
      subst (λ (x : Ranking). Rank (rows o' n d (points b)) x.rank) passed.1
      (rank_ordered g g' n d (rank_passed b n d m l passed.0).few_taps (points b) (rank_of_lem o n d (points b)))

  -- the additions are at most the formula's: without a division, and as the specification has it
  pub additions_accepted : let k : ℕ = length (points b) in
      (2 * r.additions + r.rank * (r.rank + 1) ≤ 2 * (k * r.rank)) × (r.additions ≤ k * r.rank - r.rank * (r.rank + 1) / 2)
  additions_accepted = subst (Few (length (points b))) passed.1 (few o n d (points b))
