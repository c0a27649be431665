-- What the exported operations answer and leave, where that is more than a status and one number or buffer. Each record is over
-- the outcome o of its operation.
--   ReadStatus o ..      the status, both buffers and the number of taps after Read
--   WriteStatus o ..     the status, the output and the length of the file after Write
--   RankStatus o ..      the status, the workspace, the mask of kept points, the rank and the additions after Rank
--   JudgeStatus o ..     the status, the workspace, the witness buffers, the mask of kept points and the report after Judge; o is `reported_outcome`
--   CertifyStatus o ..   the status, the workspace and the certificate after Certify
--   CheckStatus o ..     the status and the number for yes or no after Check
--   in_front part copy   a buffer with a part at its front, as many bytes as it has room for
--   HandOverStatus ..    the length of the part that Hand over hands back, and its copy
--   RearrangeStatus o .. the status and both masks after Rearrange
use Rattle.std.specs.Prelude.{◌≡◌, Bool, List, ◌++◌, ℕ, min, length, get_or, take, drop}
use Rattle.cube.specs.NumberLists.{lists}
use Rattle.cube.specs.Mask.{byte, mask}
use Rattle.refusal.specs.Outcome.{Outcome, accepted, left, left_by}
use Rattle.refusal.specs.Status.{status_of}
use Rattle.filter_file.specs.File.{Contents}
use Rattle.matrix.specs.Rank.{Ranking}
use Rattle.packed.specs.Packed.{zeros}
use Rattle.filter.specs.Sides.{Sides}
use Rattle.immunity.specs.Judgement.{Judgement}
use Rattle.certify.specs.Certify.{cleared_unless}
use Rattle.hand_over.specs.HandOver.{handed}
use Rattle.judge_report.specs.Report.{report_of, StandsFor}
use Rattle.rearrange.specs.Rearrange.{Rearranged}

-- Read: the set s, the table f and the number n at entry and at exit
pub record ReadStatus (o : Outcome Contents) (s s' f f' : List ℕ) (n n' r : ℕ) : Type 0 where
  pub status : r ≡ status_of o
  pub set : s' ≡ left_by o s (λ c. mask (lists c.set))
  pub table : f' ≡ left_by o f (λ c. mask (lists c.table))
  pub taps : n' ≡ left_by o n (λ c. c.n)

-- Write: the output and the number for the length at entry and at exit
pub record WriteStatus (o : Outcome (List ℕ)) (out out' : List ℕ) (k k' r : ℕ) : Type 0 where
  pub status : r ≡ status_of o
  pub output : out' ≡ left_by o out (λ file. file ++ drop (length file) out)
  pub long : k' ≡ left_by o k length

-- Rank: workspace, mask of kept points, rank and additions at entry and at exit
pub record RankStatus (o : Outcome Ranking) (ws ws' m m' : List ℕ) (k k' a a' r : ℕ) : Type 0 where
  pub status : r ≡ status_of o
  pub workspace : ws' ≡ left o ws (zeros (length ws))
  pub kept : m' ≡ left_by o m (λ x. x.kept)
  pub rank : k' ≡ left_by o k (λ x. x.rank)
  pub additions : a' ≡ left_by o a (λ x. x.additions)

-- Judge: workspace, witness buffers, mask of kept points and report at entry and at exit; the reported degree stands at 30, side 1's own
-- degree at 33, side 0's at 34, the mark at 35, each 10 exactly where there is none; the side stands at 31, 2 exactly where there is none
pub record JudgeStatus (o : Outcome Judgement) (ws ws' : List ℕ) (w w' : Sides (List ℕ)) (m m' ns ns' : List ℕ) (r : ℕ) : Type 0 where
  pub status : r ≡ status_of o
  pub workspace : ws' ≡ left o ws (zeros (length ws))
  pub witnesses : w' ≡ left_by o w (λ j. j.witnesses)
  pub kept : m' ≡ left_by o m (λ j. j.kept)
  pub report : ns' ≡ left_by o ns report_of
  pub degree_named : (j : Judgement) → o ≡ accepted j → StandsFor j.degree 10 (get_or ns' 30 0)
  pub side_named : (j : Judgement) → o ≡ accepted j → StandsFor j.side 2 (get_or ns' 31 0)
  pub one_named : (j : Judgement) → o ≡ accepted j → StandsFor j.degrees.one 10 (get_or ns' 33 0)
  pub zero_named : (j : Judgement) → o ≡ accepted j → StandsFor j.degrees.zero 10 (get_or ns' 34 0)
  pub mark_named : (j : Judgement) → o ≡ accepted j → StandsFor j.mark 10 (get_or ns' 35 0)

-- Certify: workspace and certificate at entry and at exit
pub record CertifyStatus (o : Outcome (List ℕ)) (ws ws' c c' : List ℕ) (r : ℕ) : Type 0 where
  pub status : r ≡ status_of o
  pub workspace : ws' ≡ cleared_unless o ws
  pub certificate : c' ≡ left_by o c (λ x. x)

-- Check: the number for the answer at entry and at exit, 1 for yes and 0 for no
pub record CheckStatus (o : Outcome Bool) (y y' r : ℕ) : Type 0 where
  pub status : r ≡ status_of o
  pub answer : y' ≡ left_by o y byte

-- the bytes of a part in front of a buffer, as many as it has room for
unfoldable pub in_front : List ℕ → List ℕ → List ℕ
in_front part copy = let k : ℕ = min (length part) (length copy) in take k part ++ drop k copy

-- Hand over, lent both witness buffers: the copy at entry and at exit
pub record HandOverStatus (n side : ℕ) (w : Sides (List ℕ)) (copy copy' : List ℕ) (r : ℕ) : Type 0 where
  pub long : r ≡ length (handed n side w)
  pub copied : copy' ≡ in_front (handed n side w) copy

-- Rearrange: the set s and the table f at entry and at exit
pub record RearrangeStatus (o : Outcome Rearranged) (s s' f f' : List ℕ) (r : ℕ) : Type 0 where
  pub status : r ≡ status_of o
  pub set : s' ≡ left_by o s (λ x. x.set)
  pub table : f' ≡ left_by o f (λ x. x.table)
