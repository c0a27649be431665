-- What is promised of each side's own degree holds.
--   both_sides_lem   every sentence
use mathlib.Core.Path.{◌≡◌, refl, sym, ap, ◌∙◌}
use mathlib.Core.Logic.{◌↔◌, inl, inr}
use mathlib.Core.List.{List, ◌++◌, append_assoc}
use Prim.Native.Nat.{ℕ, ◌≤◌}
use native.Mathlib.Omega.{arith}
use Rattle.std.specs.Prelude.{Some}
use Rattle.cube.specs.NumberLists.{select, Inside}
use Rattle.cube.specs.Cube.{size}
use Rattle.cube.specs.Mask.{member, points}
use Rattle.cube.proofs.Masks.{points_inside}
use Rattle.order.specs.BuiltIn.{graded}
use Rattle.order.proofs.BuiltIn.{graded_is_graded}
use Rattle.filter.specs.Sides.{of_side}
use Rattle.filter.specs.Filter.{Filter}
use Rattle.filter.proofs.Filters.{few_taps}
use Rattle.filter.proofs.Sides.{of_both}
use Rattle.immunity.specs.Judgement.{EqualRanks, reported, side_degree, Judgement, judged, GivenEqual}
use Rattle.immunity.proofs.Given.{equal_given}
use Rattle.immunity.proofs.Reported.{reported_first}
use Rattle.immunity.proofs.NoPoint.{own_point, side_point}
use Rattle.immunity.proofs.SideDegrees.{side_first, side_equal, side_annihilates, side_lowest, side_whole, side_other, sides_smaller, side_most, side_is_1}
use Rattle.judge.specs.Judge.{JudgeAccepts}
use Rattle.judge.proofs.Passed.{judge_accepted, found_accepts, found_judged}
use Rattle.text.specs.Text.{Text, ascii, newline, labelled, fields}
use Rattle.sheet_text.specs.Sheet.{judgement_sheet}
use Rattle.demands.specs.Sides.{FirstDifference, SidesWords, BothSides}
use Rattle.demands.proofs.SheetWords.{sheet_words}

module _ (n : ℕ) (s f : List ℕ) (p : Filter n s f) where
  -- the judgement
  abbrev j : Judgement
  j = judged graded n s f

  small : n ≤ 9
  small = few_taps n s f p

  inside : Inside (size n) (points s)
  inside = points_inside n s p.set_formed

  -- the ranks given are equal exactly where the ranks are
  given : (side d : ℕ) → side ≤ 1 → d ≤ n → GivenEqual j side d ↔ EqualRanks graded n s f side d
  given side d l m = equal_given graded n s f d m small side l

  -- a side's own degree
  own : (side : ℕ) → side ≤ 1 → of_side side j.degrees ≡ side_degree graded n s f side
  unfolding judged
  own side l = of_both (side_degree graded n s f) side l

  -- the first degree at which the ranks given differ
  first_difference : (side d : ℕ) → side ≤ 1 → (side_degree graded n s f side ≡ Some d) ↔ FirstDifference n j side d
  first_difference side d l = (
    λ e. let (m, h, b) = (side_first graded n s f side d).0 e in
        record { within = m; at = λ q. h ((given side d l m).0 q); before = λ i k. (given side i l (omega arith)).1 (b i k) },
    λ r. (side_first graded n s f side d).1 (r.within, λ q. r.at ((given side d l r.within).1 q), λ i k. (given side i l (omega (arith, r.within))).0 (r.before i k)),
  )

  -- each sentence, of one n, set and table
  sides_words : SidesWords n s f j
  unfolding judged
  sides_words =
      let owned = own_point graded_is_graded n s f p in
      record {
        first = λ side d l. rw (own side l) (first_difference side d l);
        none_equal = λ side l. rw (own side l) (
          λ e d m. (given side d l m).1 ((side_equal graded n s f side).0 e d m),
          λ h. (side_equal graded n s f side).1 (λ d m. (given side d l m).0 (h d m)),
        );
        reported = sides_smaller graded n s f;
        one_exists = (
          λ (side, d, l, e). owned.0 (side, d, l, sym (own side l) ∙ e),
          λ h. let (side, d, l, e) = owned.1 h in (side, d, l, own side l ∙ e),
        );
        side_exists = side_point graded_is_graded n s f p;
        side_is = side_most graded n s f (reported graded n s f);
        side_1 = side_is_1 graded n s f (reported_first graded_is_graded small s f);
        lowest = λ side d l. rw (own side l) (side_lowest graded_is_graded small s f side d);
        none_whole = λ side l. rw (own side l) (side_whole graded_is_graded small s f side inside);
        none_annihilates = λ side l. rw (own side l) (side_annihilates graded_is_graded small s f side);
        other_zero = λ (a, point) side other l m apart e.
            own other m
            ∙ side_other graded_is_graded small s f side other apart ((side_whole graded_is_graded small s f side inside).0 (sym (own side l) ∙ e)) a point;
      }

-- each sentence of what Judge accepts
words : (n : ℕ) (s f : List ℕ) (j : Judgement) → JudgeAccepts graded n s f j → SidesWords n s f j
words n s f j e = let (h, is) = judge_accepted graded n s f j e in rw (← is) (sides_words n s f h)

-- every sentence
pub both_sides_lem : BothSides
unfolding judgement_sheet ascii
both_sides_lem = record {
  every = words;
  answered = λ o ws ws' w w' m m' y j h e. let (a, is, reported) = found_judged y w' m' j (h.answers ∙ e) in (
    a,
    is,
    elim reported [
      | inl (r, has, same) ↦ inl (r, has, ap (λ (i : Judgement). i.degrees) same, ap (λ (i : Judgement). i.degree) same, ap (λ (i : Judgement). i.side) same)
      | inr (has, same) ↦ inr (has, sym (ap (λ (i : Judgement). i.degrees) same), sym (ap (λ (i : Judgement). i.degree) same), sym (ap (λ (i : Judgement). i.side) same))
    ],
  );
  report_says = λ n s f ws ws' w w' m m' a r h e. words n s f _ (found_accepts graded n s f ws ws' w w' m m' a h _ e);
  degree_printed = λ k side ws.
      let w : Text = fields (select (member (of_side side ws)) graded) in
      ap (λ x. x ++ newline) (sym (append_assoc (labelled "degree" k) (labelled " side" side ++ ascii " witness") w)
      ∙ ap (λ x. x ++ w) (sym (append_assoc (labelled "degree" k) (labelled " side" side) (ascii " witness"))));
  sides_printed = λ x y. (refl, refl, refl);
  none_printed = λ ws. (refl, refl);
  printed = λ file c j e h. sheet_words.sheet_judged file c j e h;
}
