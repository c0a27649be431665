-- What is promised of kept points, sentence by sentence, about the definitions that the contracts equate with what the code answers
-- and leaves: docs/SPECIFICATION.md, 'Elimination', 'Rank', 'Judge' and 'Certify'.
--   KeptWords n d ps m   what is promised of the mask m of the points that are kept of the points ps at degree d
--   KeptMasks            the same of the masks that Rank and Judge leave and of the one that Certify goes by, and what a refusal leaves
use Rattle.std.specs.Prelude.{◌≡◌, ◌↔◌, ◌≢◌, true, ℕ, ◌≤◌, ◌<◌, length, get_or, Result, Ok, Err, None, Some}
use mathlib.Core.List.{List, Memᴰ}
use Rattle.cube.specs.NumberLists.{lists}
use Rattle.cube.specs.Mask.{WellFormed, member, points, mask}
use Rattle.order.specs.BuiltIn.{graded}
use Rattle.refusal.specs.declared.Refusal.{Refusal}
use Rattle.refusal.specs.Verdict.{verdict}
use Rattle.refusal.specs.Outcome.{refused}
use Rattle.gf2.specs.Rank.{Rank}
use Rattle.gf2.specs.Meeting.{KeptPoint}
use Rattle.packed.specs.Packed.{zeros}
use Rattle.point_rows.specs.Rows.{row, rows}
use Rattle.matrix.specs.declared.rank.Ranked.{Ranked}
use Rattle.matrix.specs.Rank.{Ranking, rank_outcome, outcome_of as rank_outcome_of, RankContract}
use Rattle.filter.specs.Sides.{Sides}
use Rattle.filter.specs.Part.{part}
use Rattle.immunity.specs.Ranks.{no_ranks}
use Rattle.immunity.specs.Certificate.{bit_of}
use Rattle.judge.specs.declared.JudgeAnswer.{JudgeAnswer}
use Rattle.judge.specs.declared.Report.{Report}
use Rattle.judge.specs.Judge.{judge_outcome, outcome_of as judge_outcome_of, JudgeContract}
use Rattle.certify.specs.Certify.{certify_inputs, PartKept, CertifyAccepts}
use Rattle.demands.specs.Demands.{RankAccepts}
use Rattle.demands.specs.JudgementWords.{SameRank}

-- what is promised of the mask m of the points that are kept of the points ps at degree d
pub record KeptWords (n d : ℕ) (ps m : List ℕ) : Type 0 where
  -- it is 1 exactly at the kept points: those of ps whose row at d is no sum of rows of smaller points of ps
  pub exactly : (a : ℕ) → (member m a ≡ true) ↔ KeptPoint (row graded n d) ps a
  -- it is 0 elsewhere
  pub elsewhere : (a : ℕ) → ¬ KeptPoint (row graded n d) ps a → get_or m a 0 ≡ 0
  -- so it marks none but points of ps
  pub subset : (a : ℕ) → member m a ≡ true → Memᴰ a ps
  -- it is well formed: 512 bytes, by the 0/1/0 rule
  pub long : length m ≡ 512
  pub formed : WellFormed n m
  -- it marks as many points as the rank of ps
  pub as_many : Rank (rows graded n d ps) (length (points m))
  -- its points alone have the same rank as all of ps,
  pub same_rank : SameRank n d (points m) ps
  -- and Rank, lent it as a mask and buffers of the right lengths, keeps them all: it answers that rank and leaves the same mask
  pub again : (x : Ranking) × RankAccepts m n d x × Rank (rows graded n d ps) x.rank × (x.kept ≡ m)

-- what is promised of Rank, Judge and Certify
pub record KeptMasks : Type 0 where
  -- Rank accepts: what it leaves in the mask, whatever that held, marks the kept points of the mask that it was given, as many as the rank that it answers
  pub rank_marks : (b : List ℕ) (n d : ℕ) (ws ws' m m' : List ℕ) (r : Ranked)
      → RankContract (rank_outcome graded b n d (length ws) (length m)) ws ws' m m' (Ok r)
      → KeptWords n d (points b) m' × (length (points m') ≡ r.rank)
  -- that mask, lent to Rank in place of the first, with any buffers of the right lengths, is accepted: it has the same rank, and is left again
  pub rank_again : (b : List ℕ) (n d : ℕ) (ws ws' m m' : List ℕ) (r : Ranked)
      → RankContract (rank_outcome graded b n d (length ws) (length m)) ws ws' m m' (Ok r)
      → (v v' l l' : List ℕ) (a : Result Ranked Refusal) → length v ≡ 8192 → length l ≡ 512 → RankContract (rank_outcome graded m' n d (length v) (length l)) v v' l l' a
      → (x : Ranked) × (a ≡ Ok x) × (x.rank ≡ r.rank) × (l' ≡ m')
  -- Rank refuses: the mask is as it was
  pub rank_refusal : (b : List ℕ) (n d : ℕ) (ws ws' m m' : List ℕ) (x : Refusal)
      → RankContract (rank_outcome graded b n d (length ws) (length m)) ws ws' m m' (Err x) → m' ≡ m
  -- a mask of another length it refuses by 1, whatever else it is lent
  pub rank_length : (b : List ℕ) (n d : ℕ) (ws ws' m m' : List ℕ) (a : Result Ranked Refusal) → length m ≢ 512
      → RankContract (rank_outcome graded b n d (length ws) (length m)) ws ws' m m' a → rank_outcome_of a m' ≡ refused 1
  -- Judge accepts: what it leaves in the mask, whatever that held, marks the kept points of S at the reported degree, as many as the rank that it gives there,
  pub judge_marks : (n : ℕ) (s f ws ws' : List ℕ) (w w' : Sides (List ℕ)) (m m' : List ℕ) (a : JudgeAnswer) (r : Report)
      → JudgeContract (judge_outcome graded s f n (length ws) (length w.one) (length w.zero) (length m)) ws ws' w w' m m' (Ok a) → a.report ≡ Some r
      → KeptWords n r.degree (points s) m' × (length (points m') ≡ (get_or a.ranks r.degree no_ranks).set)
  -- and it is the mask that Rank leaves for S at that degree
  pub judge_as_rank : (n : ℕ) (s f ws ws' : List ℕ) (w w' : Sides (List ℕ)) (m m' : List ℕ) (a : JudgeAnswer) (r : Report)
      → JudgeContract (judge_outcome graded s f n (length ws) (length w.one) (length w.zero) (length m)) ws ws' w w' m m' (Ok a) → a.report ≡ Some r
      → (x : Ranking) × RankAccepts s n r.degree x × (x.kept ≡ m')
  -- where it reports no degree the mask is zeros, and these mark the kept points of S at every degree, as Rank's mask does
  pub judge_none : (n : ℕ) (s f ws ws' : List ℕ) (w w' : Sides (List ℕ)) (m m' : List ℕ) (a : JudgeAnswer)
      → JudgeContract (judge_outcome graded s f n (length ws) (length w.one) (length w.zero) (length m)) ws ws' w w' m m' (Ok a) → a.report ≡ None
      → (m' ≡ zeros 512) × ((d : ℕ) → d ≤ n → KeptWords n d (points s) m' × ((x : Ranking) × RankAccepts s n d x × (x.kept ≡ m')))
  -- Judge refuses: the mask is as it was
  pub judge_refusal : (n : ℕ) (s f ws ws' : List ℕ) (w w' : Sides (List ℕ)) (m m' : List ℕ) (x : Refusal)
      → JudgeContract (judge_outcome graded s f n (length ws) (length w.one) (length w.zero) (length m)) ws ws' w w' m m' (Err x) → m' ≡ m
  -- a mask of another length it refuses by 1, whatever else it is lent
  pub judge_length : (n : ℕ) (s f ws ws' : List ℕ) (w w' : Sides (List ℕ)) (m m' : List ℕ) (a : Result JudgeAnswer Refusal) → length m ≢ 512
      → JudgeContract (judge_outcome graded s f n (length ws) (length w.one) (length w.zero) (length m)) ws ws' w w' m m' a → judge_outcome_of a w' m' ≡ refused 1
  -- where Certify's checks of its inputs pass, the mask that it goes by (what `part_kept` answers for a mask b of the part, and `combine_kept` asks for) marks the kept points of the part at d,
  pub certify_marks : (n : ℕ) (s f : List ℕ) (side d k l : ℕ) (b m : List ℕ) → verdict (certify_inputs s f n side d k l) ≡ Ok tt
      → points b ≡ part side s f → PartKept graded n d b m → KeptWords n d (part side s f) m
  -- it is the mask that Rank leaves for the part at d, lent the 512 bytes that mark the part,
  pub certify_as_rank : (n : ℕ) (s f : List ℕ) (side d k l : ℕ) (b m : List ℕ) → verdict (certify_inputs s f n side d k l) ≡ Ok tt
      → points b ≡ part side s f → PartKept graded n d b m → (x : Ranking) × RankAccepts (mask (lists (part side s f))) n d x × (x.kept ≡ m)
  -- and the certificate names no point but those that it marks
  pub certify_names : (n : ℕ) (s f : List ℕ) (side d : ℕ) (c b m : List ℕ) → CertifyAccepts graded n s f side d c → points b ≡ part side s f → PartKept graded n d b m
      → (a q : ℕ) → q < 512 → bit_of c a q ≡ true → member m q ≡ true
