-- What is promised of a set without a point, sentence by sentence, about the definitions that the contracts equate with what the code
-- answers and leaves: docs/SPECIFICATION.md, 'Words', 'Refusals', 'Filter file', 'Read', 'Write', 'Rearrange', 'Judge', 'Certify', 'Check'
-- and 'Sheet'. The rest is said where it is said of every set: `exists`, `none_differs` and `none_annihilates` of demand 3, `empty_mask` of
-- RankWords, `no_side` and `no_witnesses` of JudgeWords, `exists` of MarkWords, `printed_none` of SetMark, `one_exists` and `side_exists` of
-- SidesWords, `judge_none` of KeptMasks.
--   no_points               the set of no points
--   TableOf n f             n and the table f obey the rules: 1 to 9 taps, 512 bytes by the 0/1/0 rule
--   no_point_file n ones    what the file of n taps, no points and the list `ones` of the points where f is 1 says
--   zero_lines n            a rank line of zeros for each degree up to n
--   no_point_sheet n        the sheet of n taps and no points
--   NothingFound j          the judgement j has no rank but 0, no degree, no side, no mark, and leaves zeros
--   EmptySet                what is promised of Read, Write, Rearrange, Judge, Certify, Check, the sheet and the refusals
use Rattle.std.specs.Prelude.{◌≡◌, ◌↔◌, ◌≢◌, Bool, true, false, List, [], ◌∷◌, ◌++◌, ℕ, ◌+◌, ◌^◌, ◌≤◌, ◌<◌, length, get_or, drop, replicate, Result, Ok, None, Some}
use Rattle.refusal.specs.Verdict.{Verdict}
use Rattle.cube.specs.NumberLists.{below, lists}
use Rattle.cube.specs.Cube.{Taps, size}
use Rattle.cube.specs.Mask.{WellFormed, points, HasPoint, mask}
use Rattle.order.specs.BuiltIn.{graded}
use Rattle.refusal.specs.declared.Refusal.{Refusal}
use Rattle.refusal.specs.Refusal.{number_of}
use Rattle.refusal.specs.Outcome.{Outcome, refused, accepted, outcome_of}
use Rattle.polynomial.specs.Polynomial.{Polynomial}
use Rattle.polynomial.specs.Convert.{convert_outcome}
use Rattle.polynomial.specs.Degree.{degree_outcome}
use Rattle.matrix.specs.Rank.{rank_outcome}
use Rattle.packed.specs.Packed.{zeros}
use Rattle.point_list.specs.PointList.{RisingFrom}
use Rattle.filter.specs.Sides.{Sides, pair, of_side}
use Rattle.filter.specs.Part.{part}
use Rattle.filter_file.specs.File.{Contents, encode}
use Rattle.filter_file.specs.Read.{read_outcome, ReadContract, reading}
use Rattle.filter_file.specs.Write.{write_outcome, WriteContract, WriteAccepts}
use Rattle.immunity.specs.Ranks.{no_ranks}
use Rattle.immunity.specs.Annihilator.{Annihilator}
use Rattle.immunity.specs.Judgement.{Judgement, GivenEqual}
use Rattle.judge.specs.declared.JudgeAnswer.{JudgeAnswer}
use Rattle.judge.specs.declared.Report.{Report}
use Rattle.judge.specs.Judge.{judge_outcome, JudgeContract, JudgeAccepts}
use Rattle.certify.specs.Certify.{certify_outcome, CertifyContract, CertifyAccepts}
use Rattle.checker.specs.Check.{check_outcome, CheckContract, CheckAccepts}
use Rattle.wiring.specs.Wiring.{Wiring}
use Rattle.rearrange.specs.Rearrange.{rearrange_outcome, RearrangeContract}
use Rattle.text.specs.Text.{Text, ascii, newline, decimal, labelled, joined}
use Rattle.sheet_text.specs.Sheet.{sheet}

-- the set of no points
abbrev pub no_points : List ℕ
no_points = zeros 512

-- n and a table obey the rules
abbrev pub TableOf : ℕ → List ℕ → Type 0
TableOf n f = Taps n × (length f ≡ 512) × WellFormed n f

-- what the file of n taps, no points and the points where f is 1 says
abbrev pub no_point_file : ℕ → List ℕ → Contents
no_point_file n ones = record { n = n; set = []; table = ones }

-- a rank line of zeros for each degree up to n
abbrev pub zero_lines : ℕ → Text
zero_lines n = joined (λ d. decimal d ++ ascii " 0 0 0" ++ newline) (below (n + 1))

-- the sheet of n taps and no points
abbrev pub no_point_sheet : ℕ → Text
no_point_sheet n =
    labelled "n" n ++ ascii " points 0 mark none" ++ newline ++ zero_lines n ++ ascii "degree none" ++ newline ++ ascii "sides none none" ++ newline
    ++ ascii "additions 0" ++ newline

-- what is promised of a judgement of it
pub record NothingFound (j : Judgement) : Type 0 where
  -- all ranks are 0
  pub ranks : j.ranks ≡ replicate 10 no_ranks
  -- no degree exists,
  pub no_reported_degree : j.degree ≡ None
  -- no side,
  pub no_side : j.side ≡ None
  -- no degree of either side,
  pub no_own_degree : (side : ℕ) → side ≤ 1 → of_side side j.degrees ≡ None
  -- and no mark
  pub no_mark : j.mark ≡ None
  -- the mask of kept points and both witness buffers are zero
  pub no_kept : j.kept ≡ zeros 512
  pub no_witness : (side : ℕ) → side ≤ 1 → of_side side j.witnesses ≡ zeros 512
  -- there are 0 additions
  pub no_additions : j.additions ≡ 0

-- what is promised of every operation that takes a set
pub record EmptySet : Type 0 where
  -- 512 zero bytes are the only set without a point
  pub only_zeros : (n : ℕ) (s : List ℕ) → length s ≡ 512 → WellFormed n s → (HasPoint s → ⊥) ↔ (s ≡ no_points)
  -- it is accepted: by Read, which takes the file of n, no points and any table, and leaves it as the set,
  pub read : (n : ℕ) (ones : List ℕ) → Taps n → RisingFrom 0 (size n) ones → reading (encode (no_point_file n ones)) ≡ accepted (no_point_file n ones)
  pub read_leaves : (n : ℕ) (ones s s' f f' : List ℕ) (r : Result ℕ Refusal) → Taps n → RisingFrom 0 (size n) ones → length s ≡ 512 → length f ≡ 512
      → ReadContract (read_outcome (length s) (length f) (encode (no_point_file n ones))) r s s' f f' → (outcome_of r ≡ accepted n) × (s' ≡ no_points) × (f' ≡ mask (lists ones))
  -- by Write, in every output that is long enough, which writes that file,
  pub write : (n : ℕ) (f : List ℕ) (m : ℕ) → TableOf n f → let file : List ℕ = encode (no_point_file n (points f)) in length file ≤ m → WriteAccepts n no_points f m file
  pub write_leaves : (n : ℕ) (f out out' : List ℕ) (w : Result ℕ Refusal) → TableOf n f → let file : List ℕ = encode (no_point_file n (points f)) in length file ≤ length out
      → WriteContract (write_outcome no_points f n (length out)) w out out' → (outcome_of w ≡ accepted (length file)) × (out' ≡ file ++ drop (length file) out)
  -- by Rearrange with each wiring, which leaves it as it was,
  pub rearrange : (n : ℕ) (f ts s' f' : List ℕ) (r : Verdict) → TableOf n f → Wiring n ts → RearrangeContract (rearrange_outcome no_points f n ts) no_points s' f f' r
      → (r ≡ Ok tt) × (s' ≡ no_points)
  -- by Judge,
  pub judge : (n : ℕ) (f : List ℕ) → TableOf n f → (j : Judgement) × JudgeAccepts graded n no_points f j
  -- by Certify at every degree and side, with a certificate of zeros,
  pub certify : (n : ℕ) (f : List ℕ) (side d : ℕ) → TableOf n f → side ≤ 1 → d ≤ n → CertifyAccepts graded n no_points f side d (zeros 4096)
  pub certify_leaves : (n : ℕ) (f : List ℕ) (side d : ℕ) (ws ws' c c' : List ℕ) (r : Verdict) → TableOf n f → side ≤ 1 → d ≤ n → length ws ≡ 8192 → length c ≡ 4096
      → CertifyContract (certify_outcome graded no_points f n side d (length ws) (length c)) ws ws' c c' r → (r ≡ Ok tt) × (ws' ≡ zeros 8192) × (c' ≡ zeros 4096)
  -- and by Check at every degree and side, with a yes exactly to a certificate of zeros
  pub check : (n : ℕ) (f : List ℕ) (side d : ℕ) (c : List ℕ) → TableOf n f → side ≤ 1 → d ≤ n → length c ≡ 4096 → ((i : ℕ) → get_or c i 0 < 2 ^ 64)
      → (b : Bool) × CheckAccepts graded n no_points f side d c b × ((b ≡ true) ↔ (c ≡ zeros 4096))
  pub check_says : (n : ℕ) (f : List ℕ) (side d : ℕ) (c : List ℕ) (r : Result Bool Refusal) → TableOf n f → side ≤ 1 → d ≤ n → length c ≡ 4096 → ((i : ℕ) → get_or c i 0 < 2 ^ 64)
      → CheckContract graded no_points f n side d c r → ((r ≡ Ok true) ↔ (c ≡ zeros 4096)) × ((r ≡ Ok false) ↔ (c ≢ zeros 4096))
  -- nothing is found on it: no rank but 0, no degree, no side, no mark, zeros in every buffer
  pub nothing : (n : ℕ) (f : List ℕ) (j : Judgement) → JudgeAccepts graded n no_points f j → NothingFound j
  -- equal ranks still mean that no polynomial qualifies, and here that is so at each degree: the ranks are equal,
  pub equal : (n : ℕ) (f : List ℕ) (j : Judgement) → JudgeAccepts graded n no_points f j → (side d : ℕ) → side ≤ 1 → d ≤ n → GivenEqual j side d
  -- and no polynomial, of whatever degree, is zero on a part and one somewhere on S
  pub no_polynomial : (n : ℕ) (f : List ℕ) (side : ℕ) (p : Polynomial) → ¬ Annihilator n p (part side no_points f) (points no_points)
  -- the code of Judge answers without a report exactly where it accepts a set without a point,
  pub answered : (n : ℕ) (s f ws ws' : List ℕ) (w w' : Sides (List ℕ)) (m m' : List ℕ) (y : Result JudgeAnswer Refusal)
      → let o : Outcome Judgement = judge_outcome graded s f n (length ws) (length w.one) (length w.zero) (length m) in JudgeContract o ws ws' w w' m m' y
      → ((a : JudgeAnswer) × (y ≡ Ok a) × (a.report ≡ None)) ↔ ((j : Judgement) × (o ≡ accepted j) × (HasPoint s → ⊥))
  -- and with one exactly where it accepts a set with a point;
  pub reported : (n : ℕ) (s f ws ws' : List ℕ) (w w' : Sides (List ℕ)) (m m' : List ℕ) (y : Result JudgeAnswer Refusal)
      → let o : Outcome Judgement = judge_outcome graded s f n (length ws) (length w.one) (length w.zero) (length m) in JudgeContract o ws ws' w w' m m' y
      → ((a : JudgeAnswer) × (r : Report) × (y ≡ Ok a) × (a.report ≡ Some r)) ↔ ((j : Judgement) × (o ≡ accepted j) × HasPoint s)
  -- without a point its ranks are all 0, and it leaves zeros in the workspace, in both witness buffers and in the mask of kept points, whatever they held
  pub left_zero : (n : ℕ) (s f ws ws' : List ℕ) (w w' : Sides (List ℕ)) (m m' : List ℕ) (a : JudgeAnswer)
      → JudgeContract (judge_outcome graded s f n (length ws) (length w.one) (length w.zero) (length m)) ws ws' w w' m m' (Ok a) → a.report ≡ None
      → (a.ranks ≡ replicate 10 no_ranks) × (ws' ≡ zeros (length ws)) × (w' ≡ pair (zeros 512) (zeros 512)) × (m' ≡ zeros 512)
  -- the sheet says `mark none`, zeros on its rank lines, `degree none` alone on that line, `sides none none`, no sums and `additions 0`
  pub printed : (file : List ℕ) (c : Contents) → reading file ≡ accepted c → c.set ≡ [] → sheet file ≡ no_point_sheet c.n
  -- the file 01 00 00 is read, and 01 00 gets 2
  pub shortest : reading (1 ∷ 0 ∷ 0 ∷ []) ≡ accepted (no_point_file 1 [])
  pub shorter : reading (1 ∷ 0 ∷ []) ≡ refused 2
  -- 6 is the number of no refusal,
  pub no_6 : (x : Refusal) → number_of x ≢ 6
  -- and no operation gives it, whatever it is lent
  pub read_6 : (k l : ℕ) (file : List ℕ) → read_outcome k l file ≢ refused 6
  pub write_6 : (s f : List ℕ) (n m : ℕ) → write_outcome s f n m ≢ refused 6
  pub convert_6 : (n : ℕ) (b : List ℕ) → convert_outcome n b ≢ refused 6
  pub degree_6 : (n : ℕ) (b : List ℕ) → degree_outcome n b ≢ refused 6
  pub rank_6 : (b : List ℕ) (n d m l : ℕ) → rank_outcome graded b n d m l ≢ refused 6
  pub judge_6 : (s f : List ℕ) (n m p q l : ℕ) → judge_outcome graded s f n m p q l ≢ refused 6
  pub certify_6 : (s f : List ℕ) (n side d m l : ℕ) → certify_outcome graded s f n side d m l ≢ refused 6
  pub check_6 : (s f : List ℕ) (n side d : ℕ) (c : List ℕ) → check_outcome graded s f n side d c ≢ refused 6
  pub rearrange_6 : (s f : List ℕ) (n : ℕ) (ts : List ℕ) → rearrange_outcome s f n ts ≢ refused 6
