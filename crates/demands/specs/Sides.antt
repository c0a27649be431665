-- What is promised of each side's own degree, sentence by sentence, about the definitions that the contracts equate with what the code
-- answers and leaves: docs/SPECIFICATION.md, 'Judge' and 'Sheet'.
--   FirstDifference n j side d   d is the first degree from 0 to n at which the two ranks that the judgement j gives for a side differ
--   SidesWords n s f j           what is promised of one n, set and table
--   BothSides                    the same of all that Judge accepts and of every report; what Judge answers and the sheet have these degrees
use Rattle.std.specs.Prelude.{◌≡◌, ◌↔◌, ◌⊎◌, ◌≢◌, List, ◌++◌, ℕ, ◌≤◌, ◌<◌, length, None, Some, Result, Ok}
use Rattle.refusal.specs.declared.Refusal.{Refusal}
use Rattle.cube.specs.NumberLists.{select, lists}
use Rattle.cube.specs.Mask.{member, points, HasPoint, mask}
use Rattle.order.specs.BuiltIn.{graded}
use Rattle.refusal.specs.Outcome.{Outcome, accepted}
use Rattle.polynomial.specs.Polynomial.{Polynomial}
use Rattle.filter.specs.Sides.{Sides, pair, of_side}
use Rattle.filter.specs.Part.{part}
use Rattle.filter_file.specs.File.{Contents}
use Rattle.filter_file.specs.Read.{reading}
use Rattle.immunity.specs.Annihilator.{Annihilator, LowestDegree}
use Rattle.immunity.specs.FirstDegree.{smaller}
use Rattle.immunity.specs.Judgement.{Judgement, GivenEqual}
use Rattle.judge.specs.declared.JudgeAnswer.{JudgeAnswer}
use Rattle.judge.specs.declared.Report.{Report}
use Rattle.judge.specs.Judge.{judge_outcome, judgement_of, JudgeContract, JudgeAccepts}
use Rattle.text.specs.Text.{ascii, newline, field, labelled, fields}
use Rattle.sheet_lines.specs.Lines.{first_line, rank_lines, degree_line, sides_line, additions_line}
use Rattle.sheet_text.specs.Sheet.{sums, sheet}

-- d is the first degree from 0 to n at which the side's pair differs
pub record FirstDifference (n : ℕ) (j : Judgement) (side d : ℕ) : Type 0 where
  pub within : d ≤ n
  pub at : ¬ GivenEqual j side d
  pub before : (e : ℕ) → e < d → GivenEqual j side e

-- what is promised of one n, set and table, of which Judge's judgement is j
pub record SidesWords (n : ℕ) (s f : List ℕ) (j : Judgement) : Type 0 where
  -- each side's degree is the first at which its pair differs,
  pub first : (side d : ℕ) → side ≤ 1 → (of_side side j.degrees ≡ Some d) ↔ FirstDifference n j side d
  -- and none exactly when the pair differs at no d up to n
  pub none_equal : (side : ℕ) → side ≤ 1 → (of_side side j.degrees ≡ None) ↔ ((d : ℕ) → d ≤ n → GivenEqual j side d)
  -- the reported degree is the smaller of those that exist,
  pub reported : j.degree ≡ smaller j.degrees.one j.degrees.zero
  -- and one exists exactly when S has a point
  pub one_exists : ((side : ℕ) × (d : ℕ) × (side ≤ 1) × (of_side side j.degrees ≡ Some d)) ↔ HasPoint s
  -- there is a side exactly then, 1 or 0
  pub side_exists : ((side : ℕ) × (j.side ≡ Some side)) ↔ HasPoint s
  pub side_is : (side : ℕ) → j.side ≡ Some side → side ≤ 1
  -- the side is 1 exactly when side 1 has a degree of its own and it is the reported one
  pub side_1 : (j.side ≡ Some 1) ↔ ((d : ℕ) × (j.degrees.one ≡ Some d) × (j.degree ≡ Some d))
  -- in the words of polynomials: a side's degree is the lowest degree of a polynomial that is zero on its part and one somewhere on S,
  pub lowest : (side d : ℕ) → side ≤ 1 → (of_side side j.degrees ≡ Some d) ↔ LowestDegree n (part side s f) (points s) d
  -- there is none exactly when the part is all of S,
  pub none_whole : (side : ℕ) → side ≤ 1 → (of_side side j.degrees ≡ None) ↔ (part side s f ≡ points s)
  -- and exactly when there is no such polynomial,
  pub none_annihilates : (side : ℕ) → side ≤ 1 → (of_side side j.degrees ≡ None) ↔ ((p : Polynomial) → ¬ Annihilator n p (part side s f) (points s))
  -- and the other side then has degree 0, if S has a point
  pub other_zero : HasPoint s → (side other : ℕ) → side ≤ 1 → other ≤ 1 → other ≢ side → of_side side j.degrees ≡ None → of_side other j.degrees ≡ Some 0

-- of every n, set and table that Judge accepts
pub record BothSides : Type 0 where
  -- each side's degree is as its sentences say
  pub every : (n : ℕ) (s f : List ℕ) (j : Judgement) → JudgeAccepts graded n s f j → SidesWords n s f j
  -- what is answered has them: `one` is side 1's, `zero` side 0's, beside the reported degree and the side; or there is no report, and none of these
  pub answered : (o : Outcome Judgement) (ws ws' : List ℕ) (w w' : Sides (List ℕ)) (m m' : List ℕ) (y : Result JudgeAnswer Refusal) (j : Judgement)
      → JudgeContract o ws ws' w w' m m' y → o ≡ accepted j
      → (a : JudgeAnswer) × (y ≡ Ok a)
      × (((r : Report) × (a.report ≡ Some r) × (pair r.one r.zero ≡ j.degrees) × (Some r.degree ≡ j.degree) × (Some r.side ≡ j.side))
      ⊎ ((a.report ≡ None) × (j.degrees ≡ pair None None) × (j.degree ≡ None) × (j.side ≡ None)))
  -- in every report of Judge, lent buffers of any lengths, each side's degree is as the sentences say, by the ranks that are answered beside it
  pub report_says : (n : ℕ) (s f ws ws' : List ℕ) (w w' : Sides (List ℕ)) (m m' : List ℕ) (a : JudgeAnswer) (r : Report)
      → JudgeContract (judge_outcome graded s f n (length ws) (length w.one) (length w.zero) (length m)) ws ws' w w' m m' (Ok a) → a.report ≡ Some r
      → SidesWords n s f (judgement_of r a.ranks w' m')
  -- the degree line has the degree, the side and that side's witness, and the line after it each side's own degree or `none`;
  pub degree_printed : (k side : ℕ) (ws : Sides (List ℕ)) → degree_line (Some k) (Some side) ws
      ≡ labelled "degree" k ++ labelled " side" side ++ ascii " witness" ++ fields (select (member (of_side side ws)) graded) ++ newline
  pub sides_printed : (x y : ℕ) → (sides_line (pair (Some x) (Some y)) ≡ ascii "sides" ++ field x ++ field y ++ newline)
      × (sides_line (pair (Some x) None) ≡ ascii "sides" ++ field x ++ ascii " none" ++ newline) × (sides_line (pair None (Some y)) ≡ ascii "sides" ++ ascii " none" ++ field y ++ newline)
  -- without a degree and a side the first has `none` alone, and where neither side has a degree the second has it twice
  pub none_printed : (ws : Sides (List ℕ)) → (degree_line None None ws ≡ ascii "degree none" ++ newline) × (sides_line (pair None None) ≡ ascii "sides none none" ++ newline)
  -- the sheet of a file that is read prints them on the line after the degree line: the whole sheet, line by line
  pub printed : (file : List ℕ) (c : Contents) (j : Judgement) → reading file ≡ accepted c
      → let s : List ℕ = mask (lists c.set) in let f : List ℕ = mask (lists c.table) in
      JudgeAccepts graded c.n s f j → sheet file ≡ first_line c.n (length (points s)) j.mark ++ rank_lines c.n j.ranks
      ++ degree_line j.degree j.side j.witnesses ++ sides_line j.degrees ++ sums c.n s f j.degree ++ additions_line j.additions
