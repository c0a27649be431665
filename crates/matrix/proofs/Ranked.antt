-- What Rank answers.
--   ranked_is     elimination in the workspace finds the rank and the additions of the definition
--   kept_is       and the kept points
--   Passes        what the checks of Rank show
--   rank_passed   checks that pass show it
--   refuses       a broken check
--   accepts       no check is broken
use mathlib.Core.Path.{◌≡◌, sym, ap, ap₂, ◌∙◌}
use mathlib.Core.Bool.{true}
use mathlib.Core.List.{List}
use Prim.Native.Nat.{ℕ, ◌≤◌}
use Rattle.std.specs.Prelude.{Ok, Err}
use lib.ListN.{length, take}
use borrow.Author.Tests.{eqb-true, leb-true}
use Rattle.refusal.specs.Refusal.{number_of}
use Rattle.refusal.specs.Outcome.{Outcome, refused, accepted, left, left_by}
use Rattle.refusal.specs.declared.Refusal.{Refusal}
use Rattle.refusal.specs.Verdict.{verdict}
use Rattle.refusal.proofs.Verdicts.{passed_all, verdict_refuses, verdict_passes}
use Rattle.cube.specs.NumberLists.{lists, Inside}
use Rattle.cube.specs.Cube.{taps, size}
use Rattle.cube.specs.Mask.{well_formed, points, mask}
use Rattle.cube.proofs.Taps.{taps_range}
use Rattle.order.specs.Order.{Graded, columns}
use Rattle.gf2.specs.Vector.{Row}
use Rattle.gf2.specs.Elimination.{Elimination}
use Rattle.packed.specs.Packed.{zeros}
use Rattle.point_rows.specs.Workspace.{exponents, RowsFrom}
use Rattle.matrix.specs.Workspace.{Eliminates}
use Rattle.matrix.specs.Kept.{kept_mask, KeptAt}
use Rattle.matrix.specs.Rank.{ranked, Ranking, ranking_of, rank_checks, rank_outcome, RankContract}
use Rattle.matrix.specs.declared.rank.Ranked.{Ranked}
use Rattle.matrix.proofs.Stored.{stored_elimination, kept_count, made_additions}

module _ {o : List ℕ} (g : Graded o) (n d : ℕ) (s : n ≤ 9) (low : d ≤ n) (t : List Row) (there : RowsFrom (exponents o n) n t 0)
    (ps : List ℕ) (inside : Inside (size n) ps)
  where
    -- elimination in the workspace finds the rank and the additions of the definition
    pub ranked_is : (t' : List Row) (k m : ℕ) → Eliminates t t' (length (columns o n d)) ps k m → length t' ≡ 1024 → k ≤ 512
        → ◌≡◌ {A = Ranked} (record { rank = k; additions = m }) (ranked o n d ps)
    ranked_is t' k m h l small =
        ap₂ (λ (x y : ℕ). record { rank = x; additions = y }) (kept_count g n d s low t there ps inside t' k m h l small) (made_additions g n d s low t there ps inside t' k m h)

    -- and the kept points
    pub kept_is : (k : ℕ) (qs : List ℕ) → KeptAt t (length (columns o n d)) ps k qs → mask (lists (take k qs)) ≡ kept_mask o n d ps
    unfolding kept_mask
    kept_is k qs h = ap (λ xs. mask (lists xs)) (h ∙ ap (λ (x : Elimination). x.points) (stored_elimination g n d s low t there ps inside))

-- what the checks of Rank show
pub record Passes (b : List ℕ) (n d m l : ℕ) : Type 0 where
  pub mask_long : length b ≡ 512
  pub workspace_long : m ≡ 8192
  pub kept_long : l ≡ 512
  pub tapped : taps n ≡ true
  pub few_taps : n ≤ 9
  pub formed : well_formed n b ≡ true
  pub low : d ≤ n

-- checks that pass show it
pub rank_passed : (b : List ℕ) (n d m l : ℕ) → verdict (rank_checks b n d m l) ≡ Ok tt → Passes b n d m l
rank_passed b n d m l e =
    let (mask, (workspace, (kept, (tapped, (formed, (degree, _)))))) = passed_all (rank_checks b n d m l) e in
    record {
      mask_long = eqb-true (length b) 512 mask;
      workspace_long = eqb-true m 8192 workspace;
      kept_long = eqb-true l 512 kept;
      tapped = tapped;
      few_taps = ((taps_range n).0 tapped).1;
      formed = formed;
      low = leb-true d n degree;
    }

module _ (o b : List ℕ) (n d : ℕ) (ws kept : List ℕ) where
  -- what Rank answers of what is lent
  abbrev outcome : Outcome Ranking
  outcome = rank_outcome o b n d (length ws) (length kept)

  -- a broken check
  pub refuses : {x : Refusal} → verdict (rank_checks b n d (length ws) (length kept)) ≡ Err x → RankContract outcome ws ws kept kept (Err x)
  unfolding rank_outcome
  refuses {x} e =
      let broken : outcome ≡ refused (number_of x) = verdict_refuses (rank_checks b n d (length ws) (length kept)) _ e in
      record {
        answers = sym broken;
        leaves = sym (ap (λ y. left y ws (zeros (length ws))) broken);
        leaves_kept = sym (ap (λ y. left_by y kept (λ x. x.kept)) broken);
      }

  -- no check is broken
  pub accepts : verdict (rank_checks b n d (length ws) (length kept)) ≡ Ok tt → {ws' kept' : List ℕ} {r : Ranked}
      → r ≡ ranked o n d (points b) → ws' ≡ zeros (length ws) → kept' ≡ kept_mask o n d (points b) → RankContract outcome ws ws' kept kept' (Ok r)
  unfolding rank_outcome
  accepts e {ws'} {kept'} {r} f z m =
      let passes : outcome ≡ accepted (ranking_of r kept') = verdict_passes (rank_checks b n d (length ws) (length kept)) _ e ∙ sym (ap₂ (λ x y. accepted (ranking_of x y)) f m) in
      record {
        answers = sym passes;
        leaves = z ∙ sym (ap (λ y. left y ws (zeros (length ws))) passes);
        leaves_kept = sym (ap (λ y. left_by y kept (λ x. x.kept)) passes);
      }
