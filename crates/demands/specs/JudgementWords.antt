-- The sentences of docs/SPECIFICATION.md on ranks and judgements that the demands do not state, 'Elimination' to 'Hand
-- over' but 'Check', with what 'Words', 'Outcomes' and 'Sheet' say of them, about the definitions that the contracts equate with what
-- the code answers and leaves.
--   SameRank n d ps qs             the points ps and qs have the same rank at degree d
--   rank_rules b n d m l           the rules of Rank, lent the mask b, a workspace of m numbers and a mask of l bytes for the kept points, in the order of checking
--   judge_rules s f n m p q l      those of Judge, lent the set s, the table f, a workspace of m numbers, witness buffers of p and q bytes and such a mask of l bytes
--   certify_rules s f n ..         those of Certify
--   RankWords                      the sentences on elimination and on Rank
--   ReportWords n s f j k          those on what Judge answers and leaves for the reported degree k
--   JudgeWords n s f j             those on what Judge answers and leaves
--   CertifyWords n s f side d c    those on what Certify writes for a side at degree d
--   HandOverWords n side w handed  those on what Hand over hands back of the buffers w for a side
--   SheetWords                     those on what the sheet is made of, on its lines, and on a refused file
--   JudgementWords                 all of them
use Rattle.std.specs.Prelude.{◌≡◌, true, ◌↔◌, ℕ, suc, ◌+◌, ◌^◌, ◌/◌, ◌%◌, ◌≤◌, ◌<◌, length, get_or, take, Result, None, Some, Ok, Err}
use Rattle.refusal.specs.Refusal.{number_of}
use Rattle.matrix.specs.declared.rank.Ranked.{Ranked}
use Rattle.refusal.specs.Verdict.{Verdict}
use Rattle.refusal.specs.declared.Refusal.{Refusal}
use mathlib.Core.List.{List, [], ◌∷◌, ◌++◌, Memᴰ}
use Rattle.cube.specs.NumberLists.{below, select, lists}
use Rattle.cube.specs.Cube.{Taps, size, within, weight}
use Rattle.cube.specs.Mask.{WellFormed, member, points, mask}
use Rattle.order.specs.Order.{columns}
use Rattle.order.specs.BuiltIn.{graded, Precedes}
use Rattle.refusal.specs.Rule.{Rule, ◌unless◌, FirstBroken}
use Rattle.refusal.specs.Outcome.{Outcome, refused, accepted}
use Rattle.polynomial.specs.Polynomial.{Polynomial}
use Rattle.gf2.specs.Vector.{Row, entry, Zero, SumOf}
use Rattle.gf2.specs.Rank.{Rank}
use Rattle.gf2.specs.Elimination.{Elimination}
use Rattle.gf2.specs.Points.{Rising}
use Rattle.gf2.specs.Meeting.{Step, KeptPoint}
use Rattle.packed.specs.Packed.{zeros}
use Rattle.point_rows.specs.Rows.{row, rows}
use Rattle.matrix.specs.Matrix.{eliminated}
use Rattle.matrix.specs.Rank.{Ranking, rank_outcome, outcome_of as rank_outcome_of, RankContract}
use Rattle.filter.specs.Sides.{Sides, of_side}
use Rattle.filter.specs.Part.{part}
use Rattle.filter.specs.Outside.{Outside, outside}
use Rattle.filter_file.specs.File.{Contents}
use Rattle.filter_file.specs.Read.{reading}
use Rattle.immunity.specs.declared.Ranks.{Ranks}
use Rattle.immunity.specs.Ranks.{no_ranks}
use Rattle.immunity.specs.Witness.{IsWitness}
use Rattle.immunity.specs.Judgement.{summed, Judgement, set_rank, part_ranks, GivenEqual}
use Rattle.immunity.specs.Certificate.{bit_of, IsCertificate}
use Rattle.judge.specs.declared.JudgeAnswer.{JudgeAnswer}
use Rattle.judge.specs.declared.Report.{Report}
use Rattle.judge.specs.Judge.{judge_outcome, judgement_of, outcome_of as judge_outcome_of, JudgeContract, JudgeAccepts}
use Rattle.certify.specs.Certify.{certify_outcome, outcome_of as certify_outcome_of, CertifyContract, CertifyAccepts}
use Rattle.hand_over.specs.HandOver.{HandOverContract}
use Rattle.text.specs.Text.{ascii, newline, decimal, field, labelled, joined, fields}
use Rattle.sheet_lines.specs.Lines.{rank_lines, sum_lines, additions_line}
use Rattle.sheet_text.specs.Sheet.{side_sums, sums, judgement_sheet, sheet}
use Rattle.demands.specs.Demands.{RankAccepts}

-- one number is the rank of both
abbrev pub SameRank : ℕ → ℕ → List ℕ → List ℕ → Type 0
SameRank n d ps qs = (r : ℕ) × Rank (rows graded n d ps) r × Rank (rows graded n d qs) r

-- 1: mask or workspace length, or that of the mask of kept points; 4; 8; 10: d over n
abbrev pub rank_rules : List ℕ → ℕ → ℕ → ℕ → ℕ → List Rule
rank_rules b n d m l =
    1 unless (length b ≡ 512)
    ∷ 1 unless (m ≡ 8192)
    ∷ 1 unless (l ≡ 512)
    ∷ 4 unless Taps n
    ∷ 8 unless WellFormed n b
    ∷ 10 unless (d ≤ n)
    ∷ []

-- 1: set, table, workspace, either of two 512-byte witness buffers or the mask of kept points; 4; 8 for the set, then the table
abbrev pub judge_rules : List ℕ → List ℕ → ℕ → ℕ → ℕ → ℕ → ℕ → List Rule
judge_rules s f n m p q l =
    1 unless (length s ≡ 512)
    ∷ 1 unless (length f ≡ 512)
    ∷ 1 unless (m ≡ 8192)
    ∷ 1 unless (p ≡ 512)
    ∷ 1 unless (q ≡ 512)
    ∷ 1 unless (l ≡ 512)
    ∷ 4 unless Taps n
    ∷ 8 unless WellFormed n s
    ∷ 8 unless WellFormed n f
    ∷ []

-- 1: set, table, workspace, or a certificate of 4,096 numbers; 4; 8 for set, table; 10; 11: side over 1; 12: at d the part's rank differs from that of S
abbrev pub certify_rules : List ℕ → List ℕ → ℕ → ℕ → ℕ → ℕ → ℕ → List Rule
certify_rules s f n side d m l =
    1 unless (length s ≡ 512)
    ∷ 1 unless (length f ≡ 512)
    ∷ 1 unless (m ≡ 8192)
    ∷ 1 unless (l ≡ 4096)
    ∷ 4 unless Taps n
    ∷ 8 unless WellFormed n s
    ∷ 8 unless WellFormed n f
    ∷ 10 unless (d ≤ n)
    ∷ 11 unless (side ≤ 1)
    ∷ 12 unless SameRank n d (points s) (part side s f)
    ∷ []

-- on elimination, and on Rank
pub record RankWords : Type 0 where
  -- the row of a point at degree d has one column for each exponent of weight at most d,
  pub columns_are : (n d u : ℕ) → n ≤ 9 → Memᴰ u (columns graded n d) ↔ ((u < size n) × (weight u ≤ d))
  -- in graded order;
  pub columns_ordered : (n d i j : ℕ) → n ≤ 9 → i < j → j < length (columns graded n d) → Precedes (get_or (columns graded n d) i 0) (get_or (columns graded n d) j 0)
  -- so the row is as long as there are columns;
  pub row_long : (n d a : ℕ) → length (row graded n d a) ≡ length (columns graded n d)
  -- an exponent lies within a point if each one bit of it is a one bit of the point;
  pub within_is : (u a : ℕ) → (within u a ≡ true) ↔ ((i : ℕ) → u / 2 ^ i % 2 ≤ a / 2 ^ i % 2)
  -- the entry of the row is 1 where the exponent lies within the point, else 0
  pub row_entry : (n d a c : ℕ) → c < length (columns graded n d) → entry (row graded n d a) c ≡ within (get_or (columns graded n d) c 0) a
  -- the points of a mask are those where it is 1, those of a part are the points of the set where the table is the side
  pub points_are : (b : List ℕ) (a : ℕ) → Memᴰ a (points b) ↔ (get_or b a 0 ≡ 1)
  pub part_is : (side : ℕ) (s f : List ℕ) (a : ℕ) → Memᴰ a (part side s f) ↔ ((get_or s a 0 ≡ 1) × (get_or f a 0 ≡ side))
  -- elimination takes the points in rising number
  pub points_rise : (b : List ℕ) → Rising (points b)
  pub part_rises : (side : ℕ) (s f : List ℕ) → Rising (part side s f)
  -- nothing is kept and nothing added before the first
  pub begins : (n d : ℕ) → let e : Elimination = eliminated graded n d [] in (e.kept ≡ []) × (e.points ≡ []) × (e.additions ≡ 0)
  -- each row meets the rows kept so far, in the order kept: if it has a one in a kept row's first nonzero column, that kept row is added
  -- to it, one addition each; what remains, if not zero, is kept
  pub step : (n d : ℕ) (ps : List ℕ) (a : ℕ) → Step (eliminated graded n d ps) (eliminated graded n d (ps ++ (a ∷ []))) a (row graded n d a)
  -- a sum of no rows or columns is zero,
  pub no_rows : (v : Row) → SumOf [] v ↔ Zero v
  -- and zero is a sum of any rows or columns: of none of them
  pub none_chosen : (rs : List Row) (v : Row) → Zero v → SumOf rs v
  -- a point is kept exactly when its row is not a sum of rows of the points taken before it, which are the smaller ones
  pub kept : (n d : ℕ) (ps : List ℕ) → Rising ps → (a : ℕ) → Memᴰ a (eliminated graded n d ps).points ↔ KeptPoint (row graded n d) ps a
  -- the kept points rise too: each stands there once
  pub kept_rise : (n d : ℕ) (ps : List ℕ) → Rising ps → Rising (eliminated graded n d ps).points
  -- the rank of any points is the number kept
  pub number_kept : (n d : ℕ) (ps : List ℕ) (r : ℕ) → Rank (rows graded n d ps) r ↔ (r ≡ length (eliminated graded n d ps).kept)
  -- so is the rank that Rank answers, its additions are those of the elimination, and its mask marks the points that are kept
  pub rank_kept : (b : List ℕ) (n d : ℕ) (r : Ranking) → RankAccepts b n d r → let e : Elimination = eliminated graded n d (points b) in
      (r.rank ≡ length e.kept) × (r.rank ≡ length e.points) × (r.additions ≡ e.additions) × (r.kept ≡ mask (lists e.points))
  -- an empty mask is accepted: 0 and 0, and no point is kept
  pub empty_mask : (n d : ℕ) → Taps n → d ≤ n → RankAccepts (zeros 512) n d (record { rank = 0; additions = 0; kept = zeros 512 })
  -- a refusal is by the number of the first rule that does not hold
  pub refuses : (b : List ℕ) (n d m l k : ℕ) → (rank_outcome graded b n d m l ≡ refused k) ↔ FirstBroken (rank_rules b n d m l) k

-- on what Judge answers and leaves for the reported degree
pub record ReportWords (n : ℕ) (s f : List ℕ) (j : Judgement) (k : ℕ) : Type 0 where
  -- the side is 1 if side 1 differs at k,
  pub side_1 : ¬ GivenEqual j 1 k → j.side ≡ Some 1
  -- else 0
  pub side_0 : GivenEqual j 1 k → j.side ≡ Some 0
  -- a side's buffer holds the side's witness if that side differs at k,
  pub witness : (side : ℕ) → side ≤ 1 → ¬ GivenEqual j side k → IsWitness graded n k (points s) (part side s f) (member (of_side side j.witnesses))
  -- else zeros
  pub no_witness : (side : ℕ) → side ≤ 1 → GivenEqual j side k → of_side side j.witnesses ≡ zeros 512
  -- the witness is the only polynomial on kept columns that is 0 on the part and 1 at p
  pub only_witness : (side : ℕ) (w : Polynomial) → side ≤ 1 → IsWitness graded n k (points s) (part side s f) w
      → (u : ℕ) → u < size n → w u ≡ member (of_side side j.witnesses) u

-- on what Judge answers and leaves
pub record JudgeWords (n : ℕ) (s f : List ℕ) (j : Judgement) : Type 0 where
  -- the ranks stand there for each d from 0 to 9,
  pub ranks_long : length j.ranks ≡ 10
  -- and are all 0 for d past n
  pub past_n : (d : ℕ) → n < d → (set_rank j d ≡ 0) × ((side : ℕ) → side ≤ 1 → of_side side (part_ranks j d) ≡ 0)
  -- the additions are summed over the 3 × (n + 1) eliminations; finding a witness adds nothing to that count
  pub additions : j.additions
      ≡ summed (λ d. (eliminated graded n d (points s)).additions + (eliminated graded n d (part 1 s f)).additions + (eliminated graded n d (part 0 s f)).additions) (below (n + 1))
  -- each side's buffer is a mask of coefficients: 512 bytes, by the 0/1/0 rule
  pub buffer_long : (side : ℕ) → side ≤ 1 → length (of_side side j.witnesses) ≡ 512
  pub buffer_formed : (side : ℕ) → side ≤ 1 → WellFormed n (of_side side j.witnesses)
  -- side and witnesses are those of the reported degree;
  pub reported : (k : ℕ) → j.degree ≡ Some k → ReportWords n s f j k
  -- without a degree there is no side, and both buffers are zeros
  pub no_side : j.degree ≡ None → j.side ≡ None
  pub no_witnesses : j.degree ≡ None → (side : ℕ) → side ≤ 1 → of_side side j.witnesses ≡ zeros 512
  -- Certify refuses by 12 exactly where at d the part's rank differs from that of S
  pub differs_12 : (side d : ℕ) → side ≤ 1 → d ≤ n → (certify_outcome graded s f n side d 8192 4096 ≡ refused 12) ↔ (¬ GivenEqual j side d)

-- on what Certify writes
pub record CertifyWords (n : ℕ) (s f : List ℕ) (side d : ℕ) (c : List ℕ) : Type 0 where
  -- for a in S outside the part, bit q mod 64 of number q / 64 of row a is 1 exactly for the kept q whose rows sum to the row of a; all other bits are 0
  pub is : IsCertificate graded n d (points s) (part side s f) c
  -- a kept q is a point of the part whose row at degree d is not a sum of rows of smaller points of the part
  pub named_kept : (a q : ℕ) → Outside (points s) (part side s f) a → q < 512 → bit_of c a q ≡ true → KeptPoint (row graded n d) (part side s f) q
  -- the numbers are of 64 bits
  pub numbers : (i : ℕ) → get_or c i 0 < 2 ^ 64
  -- nothing else is such a certificate
  pub only : (b : List ℕ) → IsCertificate graded n d (points s) (part side s f) b → ((i : ℕ) → get_or b i 0 < 2 ^ 64) → b ≡ c

-- on what Hand over hands back
pub record HandOverWords (n side : ℕ) (w : Sides (List ℕ)) (handed : List ℕ) : Type 0 where
  -- the part handed back is the first N bytes of the buffer of that side
  pub handed_back : Taps n → side ≤ 1 → length w.one ≡ 512 → length w.zero ≡ 512 → handed ≡ take (size n) (of_side side w)
  -- if n, the side or a length is wrong, the part is empty; that is its only refusal
  pub empty : (Taps n × (side ≤ 1) × (length w.one ≡ 512) × (length w.zero ≡ 512) → ⊥) → handed ≡ []

-- on what the sheet is made of, on its lines (the first one: `SetMark`; the degree and the sides: `BothSides`), and on a refused file
pub record SheetWords : Type 0 where
  -- of what Judge answers and leaves for the file that is read,
  pub sheet_judged : (file : List ℕ) (c : Contents) (j : Judgement) → reading file ≡ accepted c
      → let s : List ℕ = mask (lists c.set) in let f : List ℕ = mask (lists c.table) in
      JudgeAccepts graded c.n s f j → sheet file ≡ judgement_sheet c.n s f j
  -- and of what Certify writes
  pub sums_certified : (n : ℕ) (s f : List ℕ) (side d : ℕ) (c : List ℕ) → CertifyAccepts graded n s f side d c
      → side_sums n s f d side ≡ sum_lines side c (outside (points s) (part side s f))
  -- a rank line has d and the ranks of S, part 1 and part 0, for each d from 0 to n
  pub ranks_printed : (n : ℕ) (rs : List Ranks)
      → rank_lines n rs ≡ joined (λ d. let r : Ranks = get_or rs d no_ranks in decimal d ++ field r.set ++ field r.one ++ field r.zero ++ newline) (below (n + 1))
  -- the sums are those of degree k - 1, side 1 then 0; none if k is 0, and none without a degree
  pub sums_printed : (n : ℕ) (s f : List ℕ) → (sums n s f None ≡ []) × (sums n s f (Some 0) ≡ [])
      × ((d : ℕ) → sums n s f (Some (suc d)) ≡ side_sums n s f d 1 ++ side_sums n s f d 0)
  -- a line of them has the side, the point, and the points that the certificate names for it, rising
  pub sum_printed : (side : ℕ) (c ps : List ℕ)
      → sum_lines side c ps ≡ joined (λ a. labelled "side" side ++ labelled " point" a ++ ascii " sum" ++ fields (select (bit_of c a) (below 512)) ++ newline) ps
  -- the last line has Judge's additions
  pub additions_printed : (m : ℕ) → additions_line m ≡ labelled "additions" m ++ newline
  -- the sheet of a file that is refused is one line, `refused` and the number, whichever it is
  pub sheet_refused : (file : List ℕ) (k : ℕ) → reading file ≡ refused k → sheet file ≡ labelled "refused" k ++ newline

-- all of them
pub record JudgementWords : Type 0 where
  -- on elimination, and on Rank
  pub rank : RankWords
  -- a refusal of Judge is by the number of the first rule that does not hold
  pub judge_refuses : (n : ℕ) (s f : List ℕ) (m p q l k : ℕ) → (judge_outcome graded s f n m p q l ≡ refused k) ↔ FirstBroken (judge_rules s f n m p q l) k
  -- where Judge accepts, what it answers and leaves is as its sentences say
  pub judge : (n : ℕ) (s f : List ℕ) (j : Judgement) → JudgeAccepts graded n s f j → JudgeWords n s f j
  -- a refusal of Certify is by the number of the first rule that does not hold
  pub certify_refuses : (n : ℕ) (s f : List ℕ) (side d m l k : ℕ) → (certify_outcome graded s f n side d m l ≡ refused k)
      ↔ FirstBroken (certify_rules s f n side d m l) k
  -- where Certify accepts, what it writes is as its sentences say
  pub certify : (n : ℕ) (s f : List ℕ) (side d : ℕ) (c : List ℕ) → CertifyAccepts graded n s f side d c → CertifyWords n s f side d c
  -- what Hand over hands back is as its sentences say
  pub hand_over : (n side : ℕ) (w : Sides (List ℕ)) (handed : List ℕ) → HandOverContract n side w handed → HandOverWords n side w handed
  -- every report of Judge, lent buffers of any lengths, is with the ranks that are answered beside it and with what is left in the buffers a judgement that Judge accepts: all that the demands and the sentences say of such, it says
  pub report_accepted : (n : ℕ) (s f ws ws' : List ℕ) (w w' : Sides (List ℕ)) (m m' : List ℕ) (a : JudgeAnswer) (r : Report)
      → JudgeContract (judge_outcome graded s f n (length ws) (length w.one) (length w.zero) (length m)) ws ws' w w' m m' (Ok a) → a.report ≡ Some r
      → JudgeAccepts graded n s f (judgement_of r a.ranks w' m')
  -- an answer is a refusal exactly when the outcome is, by the same number: of Rank,
  pub rank_answers : (o : Outcome Ranking) (ws ws' m m' : List ℕ) (a : Result Ranked Refusal) (k : ℕ) → RankContract o ws ws' m m' a → (rank_outcome_of a m' ≡ refused k) ↔ (o ≡ refused k)
  -- of Judge,
  pub judge_answers : (o : Outcome Judgement) (ws ws' : List ℕ) (w w' : Sides (List ℕ)) (m m' : List ℕ) (a : Result JudgeAnswer Refusal) (k : ℕ)
      → JudgeContract o ws ws' w w' m m' a → (judge_outcome_of a w' m' ≡ refused k) ↔ (o ≡ refused k)
  -- and of Certify
  pub certify_answers : (o : Outcome (List ℕ)) (ws ws' c c' : List ℕ) (a : Verdict) (k : ℕ) → CertifyContract o ws ws' c c' a → (certify_outcome_of a c' ≡ refused k) ↔ (o ≡ refused k)
  -- after acceptance the workspace is all zero: of Rank,
  pub rank_zeros : (o : Outcome Ranking) (ws ws' m m' : List ℕ) (a : Result Ranked Refusal) (r : Ranking) → RankContract o ws ws' m m' a → o ≡ accepted r → ws' ≡ zeros (length ws)
  -- of Judge,
  pub judge_zeros : (o : Outcome Judgement) (ws ws' : List ℕ) (w w' : Sides (List ℕ)) (m m' : List ℕ) (a : Result JudgeAnswer Refusal) (j : Judgement)
      → JudgeContract o ws ws' w w' m m' a → o ≡ accepted j → ws' ≡ zeros (length ws)
  -- and of Certify
  pub certify_zeros : (o : Outcome (List ℕ)) (ws ws' c c' : List ℕ) (a : Verdict) (x : List ℕ)
      → CertifyContract o ws ws' c c' a → o ≡ accepted x → ws' ≡ zeros (length ws)
  -- a refusal of Judge answers its number alone, and no ranks beside it
  pub judge_number_alone : (o : Outcome Judgement) (ws ws' : List ℕ) (w w' : Sides (List ℕ)) (m m' : List ℕ) (a : Result JudgeAnswer Refusal) (k : ℕ)
      → JudgeContract o ws ws' w w' m m' a → o ≡ refused k → (x : Refusal) × (a ≡ Err x) × (number_of x ≡ k)
  -- on what the sheet is made of, on its lines, and on a refused file
  pub sheet : SheetWords
