-- The demands on the whole, sentence by sentence, about the definitions that the contracts equate with what the code answers and leaves.
--   ConvertAccepts n b              Convert accepts n taps and the bytes b
--   RankAccepts b n d r             Rank accepts the points of the mask b at n taps and degree d, lent buffers of the right lengths, and answers and leaves r
--   FewAdditions m r a              a additions are at most those that the formula allows for m points of rank r
--   Demand1                         a file is read in full or refused by the number of its first fault, and a refusal changes none of the lent buffers
--   Demand2                         table and coefficients turn into each other, every rank is that of the matrix of points against monomials, and few additions are made
--   Reported3 n s f j k             what demand 3 says of the reported degree k
--   Judgement3 n s f j              demand 3 of one n, set and table
--   Demand3                         demand 3
use Rattle.std.specs.Prelude.{◌≡◌, ◌↔◌, ◌⊎◌, ◌≢◌, List, ℕ, ◌+◌, ◌*◌, ◌/◌, ◌≤◌, ◌<◌, length, Result, None, Some}
use Rattle.matrix.specs.declared.rank.Ranked.{Ranked}
use Rattle.refusal.specs.Verdict.{Verdict}
use Rattle.refusal.specs.declared.Refusal.{Refusal}
use Rattle.cube.specs.NumberLists.{lists}
use Rattle.cube.specs.Cube.{size}
use Rattle.cube.specs.Mask.{member, points, HasPoint, mask}
use Rattle.order.specs.BuiltIn.{graded}
use Rattle.refusal.specs.Outcome.{Outcome, refused, accepted, outcome_of}
use Rattle.polynomial.specs.Polynomial.{Polynomial, value, UpTo, HasDegree}
use Rattle.polynomial.specs.Convert.{convert_outcome, convert_leaves, ConvertContract}
use Rattle.gf2.specs.Rank.{Rank}
use Rattle.packed.specs.Packed.{zeros}
use Rattle.point_rows.specs.Rows.{rows}
use Rattle.matrix.specs.Matrix.{eliminated}
use Rattle.matrix.specs.Rank.{Ranking, rank_outcome, RankContract}
use Rattle.filter_file.specs.File.{Contents, encode, Valid}
use Rattle.varint.specs.Varint.{Bytes}
use Rattle.filter_file.specs.Fault.{FileFault}
use Rattle.filter_file.specs.Read.{read_outcome, ReadContract, reading}
use Rattle.filter_file.specs.Write.{WriteContract}
use Rattle.judge.specs.declared.JudgeAnswer.{JudgeAnswer}
use Rattle.rearrange.specs.Rearrange.{Rearranged, RearrangeContract}
use Rattle.filter.specs.Sides.{Sides, of_side}
use Rattle.filter.specs.Part.{part}
use Rattle.immunity.specs.Annihilator.{Annihilator}
use Rattle.immunity.specs.Judgement.{Judgement, set_rank, part_ranks, GivenEqual}
use Rattle.immunity.specs.Certificate.{Certifies}
use Rattle.judge.specs.Judge.{JudgeContract, JudgeAccepts}
use Rattle.certify.specs.Certify.{CertifyContract, CertifyAccepts}

-- Convert accepts n taps and the bytes b
abbrev pub ConvertAccepts : ℕ → List ℕ → Type 0
ConvertAccepts n b = convert_outcome n b ≡ accepted tt

-- Rank accepts the points of the mask b at n taps and degree d, lent buffers of the right lengths, and answers and leaves r
abbrev pub RankAccepts : List ℕ → ℕ → ℕ → Ranking → Type 0
RankAccepts b n d r = rank_outcome graded b n d 8192 512 ≡ accepted r

-- at most m × r - r × (r + 1) / 2, with what is taken away on the other side
abbrev pub FewAdditions : ℕ → ℕ → ℕ → Type 0
FewAdditions m r a = a + r * (r + 1) / 2 ≤ m * r

-- demand 1
pub record Demand1 : Type 0 where
  -- a valid file has no number: the file of each n, S and f that obey the rules is read as these
  pub valid_read : (c : Contents) → Valid c → reading (encode c) ≡ accepted c
  -- a file that is read is read in full: it is the file of what it is read as, and that obeys the rules
  pub read_in_full : (file : List ℕ) (c : Contents) → Bytes file → reading file ≡ accepted c → (file ≡ encode c) × Valid c
  -- a file is refused, by 2, 3, 4, 5 or 7, exactly when it is no such file
  pub garbage_refused : (file : List ℕ) → Bytes file
      → ((k : ℕ) × (reading file ≡ refused k) × (2 ≤ k) × (k ≤ 7) × (k ≢ 6)) ↔ ((c : Contents) → Valid c → file ≡ encode c → ⊥)
  -- the number that refuses a file is that of its first fault
  pub first_number : (file : List ℕ) (k : ℕ) → Bytes file → (reading file ≡ refused k) ↔ FileFault file k
  -- before all of these, buffers that are not both 512 long are refused by 1
  pub wrong_lengths : (k l : ℕ) (file : List ℕ) → (read_outcome k l file ≡ refused 1) ↔ ((k ≡ 512) × (l ≡ 512) → ⊥)
  -- the answer of Read is a refusal exactly when the outcome is, by the same number
  pub read_answers : (o : Outcome Contents) (r : Result ℕ Refusal) (s s' f f' : List ℕ) (k : ℕ) → ReadContract o r s s' f f' → (outcome_of r ≡ refused k) ↔ (o ≡ refused k)
  -- the points of each buffer are those of its list
  pub set_points : (file : List ℕ) (c : Contents) → Bytes file → reading file ≡ accepted c → points (mask (lists c.set)) ≡ c.set
  pub table_points : (file : List ℕ) (c : Contents) → Bytes file → reading file ≡ accepted c → points (mask (lists c.table)) ≡ c.table
  -- what Read accepts, Judge accepts
  pub read_judged : (file : List ℕ) (c : Contents) → Bytes file → reading file ≡ accepted c
      → (j : Judgement) × JudgeAccepts graded c.n (mask (lists c.set)) (mask (lists c.table)) j
  -- a refusal changes none of the lent buffers: of Read,
  pub read_keeps : (o : Outcome Contents) (r : Result ℕ Refusal) (s s' f f' : List ℕ) (k : ℕ) → ReadContract o r s s' f f' → o ≡ refused k → (s' ≡ s) × (f' ≡ f)
  -- of Write,
  pub write_keeps : (o : Outcome (List ℕ)) (r : Result ℕ Refusal) (out out' : List ℕ) (k : ℕ) → WriteContract o r out out' → o ≡ refused k → out' ≡ out
  -- of Convert,
  pub convert_keeps : (n : ℕ) (b b' : List ℕ) (r : Verdict) (k : ℕ) → ConvertContract n b b' r → convert_outcome n b ≡ refused k → b' ≡ b
  -- of Rank,
  pub rank_keeps : (o : Outcome Ranking) (ws ws' m m' : List ℕ) (r : Result Ranked Refusal) (k : ℕ) → RankContract o ws ws' m m' r → o ≡ refused k → (ws' ≡ ws) × (m' ≡ m)
  -- of Judge,
  pub judge_keeps : (o : Outcome Judgement) (ws ws' : List ℕ) (w w' : Sides (List ℕ)) (m m' : List ℕ) (r : Result JudgeAnswer Refusal) (k : ℕ)
      → JudgeContract o ws ws' w w' m m' r → o ≡ refused k → (ws' ≡ ws) × (w' ≡ w) × (m' ≡ m)
  -- of Rearrange,
  pub rearrange_keeps : (o : Outcome Rearranged) (s s' f f' : List ℕ) (r : Verdict) (k : ℕ) → RearrangeContract o s s' f f' r → o ≡ refused k → (s' ≡ s) × (f' ≡ f)
  -- and of Certify, save that 12 leaves the workspace zero
  pub certify_keeps : (o : Outcome (List ℕ)) (ws ws' c c' : List ℕ) (r : Verdict) (k : ℕ)
      → CertifyContract o ws ws' c c' r → o ≡ refused k → (c' ≡ c) × (k ≢ 12 → ws' ≡ ws) × (k ≡ 12 → ws' ≡ zeros (length ws))

-- demand 2
pub record Demand2 : Type 0 where
  -- a table becomes coefficients: the polynomial that they choose has at every point the value of the table there
  pub to_coefficients : (n : ℕ) (t : List ℕ) → ConvertAccepts n t → (a : ℕ) → a < size n → value n (member (convert_leaves n t)) a ≡ member t a
  -- coefficients become a table: at every point the value there of the polynomial that they choose
  pub to_table : (n : ℕ) (c : List ℕ) → ConvertAccepts n c → (a : ℕ) → a < size n → member (convert_leaves n c) a ≡ value n (member c) a
  -- the coefficients of the table of a polynomial are the polynomial
  pub only_coefficients : (n : ℕ) (p : Polynomial) (t : List ℕ) → ConvertAccepts n t → ((a : ℕ) → a < size n → member t a ≡ value n p a)
      → (u : ℕ) → u < size n → member (convert_leaves n t) u ≡ p u
  -- and back: what Convert leaves it accepts, and turns into what it was lent
  pub back : (n : ℕ) (b : List ℕ) → ConvertAccepts n b → ConvertAccepts n (convert_leaves n b) × (convert_leaves n (convert_leaves n b) ≡ b)
  -- Rank's rank is the rank over the field of two elements of the matrix of the mask's points against the monomials up to the degree
  pub rank : (b : List ℕ) (n d : ℕ) (r : Ranking) → RankAccepts b n d r → Rank (rows graded n d (points b)) r.rank
  -- so are the ranks that Judge gives: of the set
  pub rank_of_set : (n : ℕ) (s f : List ℕ) (j : Judgement) → JudgeAccepts graded n s f j → (d : ℕ) → d ≤ n → Rank (rows graded n d (points s)) (set_rank j d)
  -- and of each part
  pub part_rank : (n : ℕ) (s f : List ℕ) (j : Judgement) → JudgeAccepts graded n s f j → (side d : ℕ) → side ≤ 1 → d ≤ n
      → Rank (rows graded n d (part side s f)) (of_side side (part_ranks j d))
  -- for m points of rank r the additions are at most m × r - r × (r + 1) / 2: of Rank,
  pub additions : (b : List ℕ) (n d : ℕ) (r : Ranking) → RankAccepts b n d r → FewAdditions (length (points b)) r.rank r.additions
  -- and of each elimination whose additions Judge sums: of the set
  pub set_additions : (n : ℕ) (s f : List ℕ) (j : Judgement) → JudgeAccepts graded n s f j → (d : ℕ) → d ≤ n
      → FewAdditions (length (points s)) (set_rank j d) (eliminated graded n d (points s)).additions
  -- and of each part
  pub part_additions : (n : ℕ) (s f : List ℕ) (j : Judgement) → JudgeAccepts graded n s f j → (side d : ℕ) → side ≤ 1 → d ≤ n
      → FewAdditions (length (part side s f)) (of_side side (part_ranks j d)) (eliminated graded n d (part side s f)).additions

-- what demand 3 says of the reported degree k
pub record Reported3 (n : ℕ) (s f : List ℕ) (j : Judgement) (k : ℕ) : Type 0 where
  -- it is one of the degrees 0 to n,
  pub within : k ≤ n
  -- the first at which either side's pair differs
  pub before : (side d : ℕ) → side ≤ 1 → d < k → GivenEqual j side d
  pub at : (¬ GivenEqual j 1 k) ⊎ (¬ GivenEqual j 0 k)
  -- each side that differs there has a witness of exactly that degree, zero on its part, one somewhere on S
  pub witness : (side : ℕ) → side ≤ 1 → ¬ GivenEqual j side k
      → HasDegree n (member (of_side side j.witnesses)) k × Annihilator n (member (of_side side j.witnesses)) (part side s f) (points s)
  -- every polynomial that is zero on either part and one somewhere on S has at least that degree
  pub least : (side d : ℕ) (p : Polynomial) → side ≤ 1 → Annihilator n p (part side s f) (points s) → HasDegree n p d → k ≤ d

-- demand 3, of one n, set and table, and what Judge answers and leaves
pub record Judgement3 (n : ℕ) (s f : List ℕ) (j : Judgement) : Type 0 where
  -- the two ranks are equal exactly when no polynomial up to that degree is zero on the part and one somewhere on S
  pub equal : (side d : ℕ) → side ≤ 1 → d ≤ n
      → GivenEqual j side d ↔ ((p : Polynomial) → UpTo n d p → ¬ Annihilator n p (part side s f) (points s))
  -- where they are equal, Certify's certificate names for each point of S outside the part points of the part whose rows sum to its row, and nothing else
  pub certified : (side d : ℕ) → side ≤ 1 → d ≤ n → GivenEqual j side d
      → (c : List ℕ) × CertifyAccepts graded n s f side d c × Certifies graded n d (points s) (part side s f) c
  -- a degree is reported exactly when the set has a point
  pub exists : ((k : ℕ) × (j.degree ≡ Some k)) ↔ HasPoint s
  -- it is the first at which either side's pair differs, with a witness of each side that does, and no annihilator has a lower degree;
  pub reported : (k : ℕ) → j.degree ≡ Some k → Reported3 n s f j k
  -- where none is reported, neither pair differs at any degree, and no polynomial at all is zero on a part and one somewhere on S
  pub none_differs : j.degree ≡ None → (side d : ℕ) → side ≤ 1 → d ≤ n → GivenEqual j side d
  pub none_annihilates : j.degree ≡ None → (side : ℕ) (p : Polynomial) → side ≤ 1 → ¬ Annihilator n p (part side s f) (points s)

-- demand 3
pub record Demand3 : Type 0 where
  -- for every n, set and table that Judge accepts (those of every accepted file among them: `read_judged` of demand 1)
  pub every : (n : ℕ) (s f : List ℕ) (j : Judgement) → JudgeAccepts graded n s f j → Judgement3 n s f j
