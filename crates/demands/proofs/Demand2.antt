-- Demand 2 holds.
--   demand2   every sentence of it
use mathlib.Core.Path.{◌≡◌, sym, ap, ◌∙◌, subst}
use mathlib.Core.List.{List}
use mathlib.Core.Bool.{true}
use Prim.Native.Nat.{ℕ, ◌≤◌, ◌<◌}
use native.Mathlib.Omega.{arith}
use lib.ListN.{length}
use Rattle.std.specs.Prelude.{Ok}
use Rattle.refusal.specs.Outcome.{left}
use Rattle.refusal.specs.Verdict.{verdict}
use Rattle.refusal.proofs.Verdicts.{passed_all, accepted_passes}
use Rattle.cube.specs.Cube.{size}
use Rattle.cube.specs.Mask.{well_formed, member, points}
use Rattle.order.specs.BuiltIn.{graded}
use Rattle.order.proofs.BuiltIn.{graded_is_graded}
use Rattle.gf2.specs.Rank.{Rank}
use Rattle.gf2.proofs.Kept.{additions_bound}
use Rattle.filter.specs.Sides.{of_side}
use Rattle.filter.specs.Part.{part}
use Rattle.filter.proofs.Filters.{few_taps}
use Rattle.polynomial.specs.Polynomial.{Polynomial, value}
use Rattle.polynomial.specs.Convert.{converted, convert_checks, convert_outcome, convert_leaves}
use Rattle.polynomial.proofs.Value.{value_same, value_twice}
use Rattle.polynomial.proofs.Converted.{convert_fits}
use Rattle.polynomial.proofs.NormalForm.{length_converted, converted_at, converted_formed, converted_twice}
use Rattle.point_rows.specs.Rows.{row, rows}
use Rattle.matrix.specs.Matrix.{eliminated, rank_of}
use Rattle.matrix.specs.Rank.{Ranking}
use Rattle.matrix.proofs.RankOf.{rank_of_lem, rank_accepted, additions_accepted}
use Rattle.immunity.specs.Judgement.{Judgement, judged, set_rank, part_ranks}
use Rattle.immunity.proofs.Given.{set_given, part_given}
use Rattle.judge.specs.Judge.{JudgeAccepts}
use Rattle.judge.proofs.Passed.{judge_accepted}
use Rattle.demands.specs.Demands.{ConvertAccepts, RankAccepts, FewAdditions, Demand2}

module _ (n : ℕ) (b : List ℕ) (e : ConvertAccepts n b) where
  -- the checks of Convert hold
  passed : verdict (convert_checks n b) ≡ Ok tt
  unfolding convert_outcome
  passed = (accepted_passes (convert_checks n b) _ tt e).0

  -- so the bytes obey the 0/1/0 rule
  formed : well_formed n b ≡ true
  formed = let (_, (_, (h, _))) = passed_all (convert_checks n b) passed in h

  -- an acceptance leaves the converted bytes
  leaves : convert_leaves n b ≡ converted n b
  unfolding convert_leaves
  leaves = ap (λ o. left o b (converted n b)) e

  -- what is left at a number below N
  to_table : (a : ℕ) → a < size n → member (convert_leaves n b) a ≡ value n (member b) a
  to_table a l = ap (λ x. member x a) leaves ∙ converted_at n b a l

  -- it is accepted
  again : ConvertAccepts n (convert_leaves n b)
  unfolding convert_outcome
  again =
      let (long, (tapped, _)) = passed_all (convert_checks n b) passed in
      rw (leaves, length_converted n b (convert_fits n b passed), long, tapped, converted_formed n b formed)

-- from the table of a polynomial to the polynomial
only : (n : ℕ) (p : Polynomial) (t : List ℕ) → ConvertAccepts n t → ((a : ℕ) → a < size n → member t a ≡ value n p a)
    → (u : ℕ) → u < size n → member (convert_leaves n t) u ≡ p u
only n p t e h u l = to_table n t e u l ∙ value_same n (member t) (value n p) u h ∙ value_twice n p u l

-- Judge accepts up to nine taps, and judges as the definition says
judged_few : (n : ℕ) (s f : List ℕ) (j : Judgement) → JudgeAccepts graded n s f j → (n ≤ 9) × (judged graded n s f ≡ j)
judged_few n s f j e = let (h, is) = judge_accepted graded n s f j e in (few_taps n s f h, is)

module _ (n : ℕ) (s f : List ℕ) (j : Judgement) (e : JudgeAccepts graded n s f j) (d : ℕ) (low : d ≤ n) where
  -- the rank of the set that Judge gives is the number of rows kept
  set_kept : rank_of graded n d (points s) ≡ set_rank j d
  set_kept = let (small, is) = judged_few n s f j e in sym (set_given graded n s f d low small) ∙ ap (λ x. set_rank x d) is

  -- and so is that of each part
  part_kept : (side : ℕ) → side ≤ 1 → rank_of graded n d (part side s f) ≡ of_side side (part_ranks j d)
  part_kept side m = let (small, is) = judged_few n s f j e in sym (part_given graded n s f d low small side m) ∙ ap (λ x. of_side side (part_ranks x d)) is

-- elimination makes few additions
few_additions : (n d : ℕ) (ps : List ℕ) → FewAdditions (length ps) (rank_of graded n d ps) (eliminated graded n d ps).additions
unfolding eliminated
few_additions n d ps = omega (arith, additions_bound (row graded n d) ps)

-- so does Rank
rank_additions : (b : List ℕ) (n d : ℕ) (r : Ranking) → RankAccepts b n d r → FewAdditions (length (points b)) r.rank r.additions
rank_additions b n d r e = omega (arith, (additions_accepted graded b n d 8192 512 r e).0)

-- every sentence of it
pub demand2 : Demand2
demand2 = record {
  to_coefficients = λ n t e a l. value_same n (member (convert_leaves n t)) (value n (member t)) a (to_table n t e) ∙ value_twice n (member t) a l;
  to_table = to_table;
  only_coefficients = only;
  back = λ n b e. (
    again n b e,
    leaves n (convert_leaves n b) (again n b e) ∙ ap (converted n) (leaves n b e) ∙ converted_twice n b (formed n b e) (convert_fits n b (passed n b e)),
  );
  rank = λ b n d r e. rank_accepted graded b n d 8192 512 r e graded_is_graded graded_is_graded;
  rank_of_set = λ n s f j e d l. subst (Rank (rows graded n d (points s))) (set_kept n s f j e d l) (rank_of_lem graded n d (points s));
  part_rank = λ n s f j e side d m l. subst (Rank (rows graded n d (part side s f))) (part_kept n s f j e d l side m) (rank_of_lem graded n d (part side s f));
  additions = rank_additions;
  set_additions = λ n s f j e d l. subst (λ r. FewAdditions (length (points s)) r (eliminated graded n d (points s)).additions) (set_kept n s f j e d l) (few_additions n d (points s));
  part_additions = λ n s f j e side d m l.
      subst (λ r. FewAdditions (length (part side s f)) r (eliminated graded n d (part side s f)).additions) (part_kept n s f j e d l side m) (few_additions n d (part side s f));
}
