-- What is promised of the mark on a set, sentence by sentence, about the definitions that the contracts equate with what the code
-- answers and leaves: docs/SPECIFICATION.md, 'Words', 'Judge' and 'Sheet'.
--   Exceeds s j d         twice the rank that the judgement j gives the set s at degree d exceeds the number of points of s
--   FirstExceeds n s j m  m is the first degree from 0 to n at which it does
--   MarkWords n s f j     what is promised of one n, set and table
--   SetMark               the same of all that Judge accepts and of every report; on one set no filter reaches it; what Judge answers and the first line of the sheet have it
use Rattle.std.specs.Prelude.{◌≡◌, ◌↔◌, ◌⊎◌, ◌≢◌, List, ◌++◌, ℕ, ◌+◌, ◌*◌, ◌/◌, ◌≤◌, ◌<◌, ltb, length, None, Some, Result, Ok}
use Rattle.refusal.specs.declared.Refusal.{Refusal}
use Rattle.cube.specs.NumberLists.{below, lists}
use Rattle.cube.specs.Cube.{size}
use Rattle.cube.specs.Mask.{points, HasPoint, mask}
use Rattle.order.specs.BuiltIn.{graded}
use Rattle.refusal.specs.Outcome.{Outcome, accepted}
use Rattle.polynomial.specs.Polynomial.{Polynomial, HasDegree}
use Rattle.filter.specs.Sides.{Sides, of_side}
use Rattle.filter.specs.Part.{part}
use Rattle.filter_file.specs.File.{Contents}
use Rattle.filter_file.specs.Read.{reading}
use Rattle.immunity.specs.Annihilator.{Annihilator}
use Rattle.immunity.specs.FirstDegree.{smaller}
use Rattle.immunity.specs.Judgement.{Judgement, set_rank, GivenEqual}
use Rattle.judge.specs.declared.JudgeAnswer.{JudgeAnswer}
use Rattle.judge.specs.declared.Report.{Report}
use Rattle.judge.specs.Judge.{judge_outcome, judgement_of, JudgeContract, JudgeAccepts}
use Rattle.text.specs.Text.{Text, ascii, labelled, newline}
use Rattle.sheet_text.specs.Sheet.{sheet}

-- twice the rank of the set that the judgement gives at the degree exceeds the number of points of the set
abbrev pub Exceeds : List ℕ → Judgement → ℕ → Type 0
Exceeds s j d = length (points s) < 2 * set_rank j d

-- m is the first degree from 0 to n at which it does
pub record FirstExceeds (n : ℕ) (s : List ℕ) (j : Judgement) (m : ℕ) : Type 0 where
  pub within : m ≤ n
  pub at : Exceeds s j m
  pub before : (d : ℕ) → d < m → ¬ Exceeds s j d

-- what is promised of one n, set and table, of which Judge's judgement is j
pub record MarkWords (n : ℕ) (s f : List ℕ) (j : Judgement) : Type 0 where
  -- the mark is the first d at which twice the rank of S exceeds the number of points of S, and at most n
  pub first : (m : ℕ) → (j.mark ≡ Some m) ↔ FirstExceeds n s j m
  -- at d = n the rank of S is its number of points;
  pub full_rank : set_rank j n ≡ length (points s)
  -- and so there is a mark exactly when S has a point
  pub exists : ((m : ℕ) × (j.mark ≡ Some m)) ↔ HasPoint s
  -- where neither side differs, twice the rank of S does not exceed the number of its points;
  pub neither_differs : (d : ℕ) → d ≤ n → GivenEqual j 1 d → GivenEqual j 0 d → ¬ Exceeds s j d
  -- so the reported degree, which there is exactly when there is a mark, is never over it,
  pub reported_below : (k m : ℕ) → j.degree ≡ Some k → j.mark ≡ Some m → k ≤ m
  -- nor is the smaller of the sides' own degrees,
  pub smaller_below : (k m : ℕ) → smaller j.degrees.one j.degrees.zero ≡ Some k → j.mark ≡ Some m → k ≤ m
  -- whichever side has it: the other side has none, or none below it
  pub side_below : (side other d m : ℕ) → side ≤ 1 → other ≤ 1 → other ≢ side → of_side side j.degrees ≡ Some d
      → ((e : ℕ) → of_side other j.degrees ≡ Some e → d ≤ e) → j.mark ≡ Some m → d ≤ m
  -- in the words of polynomials: on some side a polynomial of degree at most the mark is zero on the part and one somewhere on S
  pub annihilator : (m : ℕ) → j.mark ≡ Some m
      → (side : ℕ) × (p : Polynomial) × (d : ℕ) × (side ≤ 1) × Annihilator n p (part side s f) (points s) × HasDegree n p d × (d ≤ m)
  -- the mark is that of n and the set, whatever the table,
  pub any_table : (g : List ℕ) (i : Judgement) → JudgeAccepts graded n s g i → i.mark ≡ j.mark
  -- so no filter on the set passes it
  pub none_passes : (g : List ℕ) (i : Judgement) (k m : ℕ) → JudgeAccepts graded n s g i → i.degree ≡ Some k → j.mark ≡ Some m → k ≤ m
  -- on all points of n taps it is n / 2 rounded up
  pub all_points : points s ≡ below (size n) → j.mark ≡ Some ((n + 1) / 2)

-- of every n, set and table that Judge accepts
pub record SetMark : Type 0 where
  -- the mark is as its sentences say
  pub every : (n : ℕ) (s f : List ℕ) (j : Judgement) → JudgeAccepts graded n s f j → MarkWords n s f j
  -- a filter does not always reach it: on the points 0 to 16 of five taps the mark is 2, and every filter has degree 0 or 1
  pub unreached : let s : List ℕ = mask (λ u. ltb u 17) in ((f : List ℕ) × (j : Judgement) × JudgeAccepts graded 5 s f j)
      × ((f : List ℕ) (j : Judgement) → JudgeAccepts graded 5 s f j → (j.mark ≡ Some 2) × ((k : ℕ) → j.degree ≡ Some k → k ≤ 1))
  -- what is answered has it, beside the reported degree; or there is no report, and neither
  pub answered : (o : Outcome Judgement) (ws ws' : List ℕ) (w w' : Sides (List ℕ)) (m m' : List ℕ) (y : Result JudgeAnswer Refusal) (j : Judgement)
      → JudgeContract o ws ws' w w' m m' y → o ≡ accepted j
      → (a : JudgeAnswer) × (y ≡ Ok a) × (((r : Report) × (a.report ≡ Some r) × (Some r.mark ≡ j.mark) × (Some r.degree ≡ j.degree))
      ⊎ ((a.report ≡ None) × (j.mark ≡ None) × (j.degree ≡ None)))
  -- in every report of Judge, lent buffers of any lengths, the mark is as the sentences say, by the ranks that are answered beside it;
  pub report_says : (n : ℕ) (s f ws ws' : List ℕ) (w w' : Sides (List ℕ)) (m m' : List ℕ) (a : JudgeAnswer) (r : Report)
      → JudgeContract (judge_outcome graded s f n (length ws) (length w.one) (length w.zero) (length m)) ws ws' w w' m m' (Ok a) → a.report ≡ Some r
      → MarkWords n s f (judgement_of r a.ranks w' m')
  -- so in every report the degree is at most the mark, and the mark at most n
  pub report_below : (n : ℕ) (s f ws ws' : List ℕ) (w w' : Sides (List ℕ)) (m m' : List ℕ) (a : JudgeAnswer) (r : Report)
      → JudgeContract (judge_outcome graded s f n (length ws) (length w.one) (length w.zero) (length m)) ws ws' w w' m m' (Ok a) → a.report ≡ Some r
      → (r.degree ≤ r.mark) × (r.mark ≤ n)
  -- the sheet of a file that is read prints it on its first line, behind n and the number of points of S;
  pub printed : (file : List ℕ) (c : Contents) (j : Judgement) (m : ℕ) → reading file ≡ accepted c
      → let s : List ℕ = mask (lists c.set) in JudgeAccepts graded c.n s (mask (lists c.table)) j → j.mark ≡ Some m
      → (rest : Text) × (sheet file ≡ labelled "n" c.n ++ labelled " points" (length (points s)) ++ labelled " mark" m ++ newline ++ rest)
  -- without one it prints `mark none` there
  pub printed_none : (file : List ℕ) (c : Contents) (j : Judgement) → reading file ≡ accepted c
      → let s : List ℕ = mask (lists c.set) in JudgeAccepts graded c.n s (mask (lists c.table)) j → j.mark ≡ None
      → (rest : Text) × (sheet file ≡ labelled "n" c.n ++ labelled " points" (length (points s)) ++ ascii " mark none" ++ newline ++ rest)
