-- What is promised of the mark on a set holds.
--   set_mark   every sentence
use mathlib.Core.Path.{◌≡◌, refl, sym, ap, ◌∙◌}
use mathlib.Core.Logic.{◌↔◌, ◌≢◌, inl, inr}
use mathlib.Core.List.{List, ◌++◌, append_assoc}
use Prim.Native.Nat.{ℕ, ◌*◌, ◌≤◌}
use native.Mathlib.Omega.{arith}
use native.Mathlib.Decide.{dec_lt, ℕ_discrete}
use lib.ListN.{length}
use Rattle.std.specs.Prelude.{Option, None, Some, Ok}
use Rattle.cube.specs.NumberLists.{lists, Inside}
use Rattle.cube.specs.Cube.{size}
use Rattle.cube.specs.Mask.{points, mask}
use Rattle.cube.proofs.Masks.{points_inside}
use Rattle.order.specs.BuiltIn.{graded}
use Rattle.order.proofs.BuiltIn.{graded_is_graded}
use Rattle.filter.specs.Sides.{Sides, of_side}
use Rattle.filter.specs.Filter.{Filter}
use Rattle.filter.specs.Part.{part}
use Rattle.filter.proofs.Filters.{few_taps}
use Rattle.filter.proofs.Sides.{of_both}
use Rattle.matrix.specs.Matrix.{rank_of}
use Rattle.matrix.proofs.FullRank.{rank_full}
use Rattle.immunity.specs.Annihilator.{LowestDegree}
use Rattle.immunity.specs.Mark.{mark_of}
use Rattle.immunity.specs.Judgement.{reported, side_degree, Judgement, judged, set_rank, GivenEqual}
use Rattle.immunity.proofs.Given.{set_given, equal_given}
use Rattle.immunity.proofs.Mark.{mark_first, mark_all, equal_most, reported_mark}
use Rattle.immunity.proofs.Reported.{reported_first}
use Rattle.immunity.proofs.NoPoint.{reported_point, mark_point}
use Rattle.immunity.proofs.SideDegrees.{side_lowest, sides_smaller, sides_one}
use Rattle.judge.specs.declared.JudgeAnswer.{JudgeAnswer}
use Rattle.judge.specs.declared.Report.{Report}
use Rattle.judge.specs.Judge.{judge_outcome, judgement_of, JudgeContract, JudgeAccepts}
use Rattle.judge.proofs.Passed.{judge_accepted, judge_accepts, found_accepts, found_judged}
use Rattle.text.specs.Text.{Text, ascii}
use Rattle.sheet_lines.specs.Lines.{first_line, rank_lines, degree_line, sides_line, additions_line}
use Rattle.sheet_text.specs.Sheet.{sums, judgement_sheet}
use Rattle.demands.specs.Mark.{Exceeds, FirstExceeds, MarkWords, SetMark}
use Rattle.demands.proofs.SheetWords.{sheet_words}
use Rattle.demands.proofs.Unreached.{seventeen, seventeen_filter, seventeen_mark, degree_most}

-- the reported degree of a filter is at most the mark on its set
never_over : (n : ℕ) (s f : List ℕ) → Filter n s f → (k m : ℕ) → reported graded n s f ≡ Some k → mark_of graded n s ≡ Some m → k ≤ m
never_over n s f p k m h e = reported_mark graded n s f p.table_formed k m (reported_first graded_is_graded (few_taps n s f p) s f k h) e

module _ (n : ℕ) (s f : List ℕ) (p : Filter n s f) where
  -- the judgement
  abbrev j : Judgement
  j = judged graded n s f

  -- at most nine taps
  small : n ≤ 9
  small = few_taps n s f p

  -- the points of the set are points of n taps
  inside : Inside (size n) (points s)
  inside = points_inside n s p.set_formed

  -- the rank of the set that the judgement gives
  given : (d : ℕ) → d ≤ n → set_rank j d ≡ rank_of graded n d (points s)
  given d l = set_given graded n s f d l small

  -- the first degree at which twice the rank given exceeds the number of points
  first_exceeds : (m : ℕ) → (mark_of graded n s ≡ Some m) ↔ FirstExceeds n s j m
  first_exceeds m = (
    λ e. let (l, h, b) = (mark_first graded n s m).0 e in
        record { within = l; at = omega (arith, h, given m l); before = λ d i x. omega (arith, b d i, given d (omega arith)) },
    λ r. (mark_first graded n s m).1 (
      r.within,
      omega (arith, r.at, given m r.within),
      λ d i. elim (dec_lt (length (points s)) (2 * set_rank j d)) [
        | yes x ↦ absurd (r.before d i x)
        | no x ↦ omega (arith, given d (omega (arith, r.within)))
      ],
    ),
  )

  -- twice the rank given does not exceed it where neither side differs
  equal_under : (d : ℕ) → d ≤ n → GivenEqual j 1 d → GivenEqual j 0 d → ¬ Exceeds s j d
  equal_under d l one zero x =
      let same = equal_given graded n s f d l small in
      omega (arith, given d l, equal_most graded n s f p.table_formed d ((same 1 (omega arith)).0 one) ((same 0 (omega arith)).0 zero))

  -- a side's own degree that is the smaller is at most the mark
  smallest : (side other d : ℕ) → side ≤ 1 → other ≤ 1 → other ≢ side → side_degree graded n s f side ≡ Some d
      → ((e : ℕ) → side_degree graded n s f other ≡ Some e → d ≤ e) → (m : ℕ) → mark_of graded n s ≡ Some m → d ≤ m
  smallest side other d l l' apart own least m e =
      let (k, is) = (reported_point graded_is_graded n s f p).1 ((mark_point graded_is_graded n s f p).0 (m, e)) in
      let (i, u, of-k) = sides_one graded n s f k (reported_first graded_is_graded small s f k is) in
      elim (ℕ_discrete i side) [
        | yes q ↦ (let same : d ≡ k = cc in rw same (never_over n s f p k m is e))
        | no q ↦ (let q' : i ≡ other = omega arith in omega (arith, least k (ap (side_degree graded n s f) (sym q') ∙ of-k), never_over n s f p k m is e))
      ]

  -- each sentence, of one n, set and table
  mark_words : MarkWords n s f j
  unfolding judged
  mark_words =
      let own : (i : ℕ) → i ≤ 1 → of_side i j.degrees ≡ side_degree graded n s f i = of_both (side_degree graded n s f) in
      record {
        first = first_exceeds;
        full_rank = given n (omega arith) ∙ rank_full graded_is_graded small s inside;
        exists = mark_point graded_is_graded n s f p;
        neither_differs = equal_under;
        reported_below = never_over n s f p;
        smaller_below = λ i m h e. never_over n s f p i m (sides_smaller graded n s f ∙ h) e;
        side_below = λ i other d m u v apart e least h. smallest i other d u v apart (sym (own i u) ∙ e) (λ x q. least x (own other v ∙ q)) m h;
        annihilator = λ m e.
            let (k, is) = (reported_point graded_is_graded n s f p).1 ((mark_point graded_is_graded n s f p).0 (m, e)) in
            let (side, l, of-k) = sides_one graded n s f k (reported_first graded_is_graded small s f k is) in
            let w : LowestDegree n (part side s f) (points s) k = (side_lowest graded_is_graded small s f side k).0 of-k in
            (side, w.polynomial, k, l, w.annihilates, w.has_degree, never_over n s f p k m is e);
        any_table = λ g i h. ap (λ (x : Judgement). x.mark) (sym (judge_accepted graded n s g i h).1);
        none_passes = λ g i x m h e q. let (filter, same) = judge_accepted graded n s g i h in never_over n s g filter x m (ap (λ (y : Judgement). y.degree) same ∙ e) q;
        all_points = mark_all graded_is_graded small s;
      }

-- on the points 0 to 16 of five taps the mark is 2, and the degree of every filter is at most 1
below_mark : (f : List ℕ) (j : Judgement) → JudgeAccepts graded 5 seventeen f j → (j.mark ≡ Some 2) × ((k : ℕ) → j.degree ≡ Some k → k ≤ 1)
unfolding judged
below_mark f j e =
    let (filter, is) = judge_accepted graded 5 seventeen f j e in (
      sym (ap (λ (x : Judgement). x.mark) is) ∙ seventeen_mark,
      λ k h. degree_most f k (reported_first graded_is_graded (few_taps 5 seventeen f filter) seventeen f k (ap (λ (x : Judgement). x.degree) is ∙ h)),
    )

-- the first line of a judgement's sheet, and the rest
first_printed : (n : ℕ) (s f : List ℕ) (j : Judgement) (x : Option ℕ) → j.mark ≡ x → (rest : Text) × (judgement_sheet n s f j ≡ first_line n (length (points s)) x ++ rest)
unfolding judgement_sheet
first_printed n s f j x e =
    let ranks : Text = rank_lines n j.ranks in
    let line : Text = degree_line j.degree j.side j.witnesses in
    let own : Text = sides_line j.degrees in
    let below : Text = sums n s f j.degree in
    let last : Text = additions_line j.additions in
    let first : Text = first_line n (length (points s)) j.mark in (
      ranks ++ (line ++ (own ++ (below ++ last))),
      append_assoc (first ++ ranks ++ line ++ own) below last ∙ append_assoc (first ++ ranks ++ line) own (below ++ last) ∙ append_assoc (first ++ ranks) line (own ++ (below ++ last))
          ∙ append_assoc first ranks (line ++ (own ++ (below ++ last))) ∙ ap (λ m. first_line n (length (points s)) m ++ (ranks ++ (line ++ (own ++ (below ++ last))))) e,
    )

-- each sentence of what Judge accepts
words : (n : ℕ) (s f : List ℕ) (j : Judgement) → JudgeAccepts graded n s f j → MarkWords n s f j
words n s f j e = let (h, is) = judge_accepted graded n s f j e in rw (← is) (mark_words n s f h)

-- and of every report
report_says : (n : ℕ) (s f ws ws' : List ℕ) (w w' : Sides (List ℕ)) (m m' : List ℕ) (a : JudgeAnswer) (r : Report)
    → JudgeContract (judge_outcome graded s f n (length ws) (length w.one) (length w.zero) (length m)) ws ws' w w' m m' (Ok a) → a.report ≡ Some r
    → MarkWords n s f (judgement_of r a.ranks w' m')
report_says n s f ws ws' w w' m m' a r h e = words n s f _ (found_accepts graded n s f ws ws' w w' m m' a h _ e)

-- every sentence
pub set_mark : SetMark
unfolding ascii
set_mark = record {
  every = words;
  unreached = ((seventeen, judged graded 5 seventeen seventeen, judge_accepts graded 5 seventeen seventeen seventeen_filter), below_mark);
  answered = λ o ws ws' w w' m m' y j h e. let (a, is, reported) = found_judged y w' m' j (h.answers ∙ e) in (
    a,
    is,
    elim reported [
      | inl (r, has, same) ↦ inl (r, has, ap (λ (i : Judgement). i.mark) same, ap (λ (i : Judgement). i.degree) same)
      | inr (has, same) ↦ inr (has, sym (ap (λ (i : Judgement). i.mark) same), sym (ap (λ (i : Judgement). i.degree) same))
    ],
  );
  report_says = report_says;
  report_below = λ n s f ws ws' w w' m m' a r h e.
      let x : MarkWords n s f (judgement_of r a.ranks w' m') = report_says n s f ws ws' w w' m m' a r h e in
      (x.reported_below r.degree r.mark refl refl, ((x.first r.mark).0 refl).within);
  printed = λ file c j m e h mark.
      let (rest, first) = first_printed c.n (mask (lists c.set)) (mask (lists c.table)) j (Some m) mark in
      (rest, sheet_words.sheet_judged file c j e h ∙ first);
  printed_none = λ file c j e h mark.
      let (rest, first) = first_printed c.n (mask (lists c.set)) (mask (lists c.table)) j None mark in
      (rest, sheet_words.sheet_judged file c j e h ∙ first);
}
