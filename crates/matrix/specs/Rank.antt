-- Rank: docs/SPECIFICATION.md, 'Rank'.
--   ranked o n d ps            the rank of the points ps at degree d, and the additions of their elimination
--   Ranking                    what Rank answers and leaves: the rank, the additions, and the mask of the kept points
--   ranking_of r kept          a rank and additions with a mask
--   ranking o n d ps           the rank of the points ps at degree d, the additions of their elimination, and the mask of the points that it keeps
--   rank_checks b n d m l      the checks of Rank, lent the mask b, a workspace of m numbers and a mask of l bytes for the kept points, in the order of checking
--   rank_outcome o b n d m l   what Rank answers and leaves in the order o: the first refusal, or rank, additions and kept points of the mask's points
--   outcome_of r kept          what an answer of Rank, with the mask kept at exit, states
--   RankContract o ..          the contract of Rank: it answers the outcome o, and leaves what that says
use Rattle.std.specs.Prelude.{◌≡◌, List, ◌++◌, ℕ, length, Result}
use Rattle.refusal.specs.Outcome.{Outcome, accepted, Check, checked, left, left_by, outcome_by}
use Rattle.refusal.specs.declared.Refusal.{Refusal}
use Rattle.cube.specs.Mask.{points}
use Rattle.filter.specs.Checks.{length_is, taps_of, mask_of, degree_up_to}
use Rattle.packed.specs.Packed.{zeros}
use Rattle.matrix.specs.Matrix.{eliminated, rank_of}
use Rattle.matrix.specs.Kept.{kept_mask}
use Rattle.matrix.specs.declared.rank.Ranked.{Ranked}

-- the rank of points and the additions of their elimination
abbrev pub ranked : List ℕ → ℕ → ℕ → List ℕ → Ranked
ranked o n d ps = record { rank = rank_of o n d ps; additions = (eliminated o n d ps).additions }

-- the rank, the additions, and the mask of the kept points
pub record Ranking : Type 0 where
  pub rank : ℕ
  pub additions : ℕ
  pub kept : List ℕ

-- a rank and additions with a mask
abbrev pub ranking_of : Ranked → List ℕ → Ranking
ranking_of r kept = record { rank = r.rank; additions = r.additions; kept = kept }

-- the rank of points, the additions of their elimination, and the mask of the points that it keeps
abbrev pub ranking : List ℕ → ℕ → ℕ → List ℕ → Ranking
ranking o n d ps = ranking_of (ranked o n d ps) (kept_mask o n d ps)

-- lengths, taps, the mask's bytes, the degree
abbrev pub rank_checks : List ℕ → ℕ → ℕ → ℕ → ℕ → List Check
rank_checks b n d m l = length_is (length b) 512 ++ length_is m 8192 ++ length_is l 512 ++ taps_of n ++ mask_of n b ++ degree_up_to d n

-- the first refusal, or rank, additions and kept points
unfoldable pub rank_outcome : List ℕ → List ℕ → ℕ → ℕ → ℕ → ℕ → Outcome Ranking
rank_outcome o b n d m l = checked (rank_checks b n d m l) (accepted (ranking o n d (points b)))

-- the number or the values of an answer
abbrev pub outcome_of : Result Ranked Refusal → List ℕ → Outcome Ranking
outcome_of r kept = outcome_by r (λ x. ranking_of x kept)

-- what is answered, and how the workspace and the mask are left
pub record RankContract (o : Outcome Ranking) (ws ws' kept kept' : List ℕ) (r : Result Ranked Refusal) : Type 0 where
  pub answers : outcome_of r kept' ≡ o
  pub leaves : ws' ≡ left o ws (zeros (length ws))
  pub leaves_kept : kept' ≡ left_by o kept (λ x. x.kept)
