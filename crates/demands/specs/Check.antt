-- What is promised of Check, sentence by sentence, about the definitions that the contracts equate with what the code answers:
-- docs/SPECIFICATION.md, 'Check'.
--   check_rules s f n side d l   the rules of Check, lent the set s, the table f and a certificate of l numbers, in the order of checking
--   Admitted s f n side d c      every rule holds
--   AnyCertificate               what is promised of Check: the refusals, what a yes and a no say, and what Certify's certificates get
use Rattle.std.specs.Prelude.{◌≡◌, ◌↔◌, ◌≢◌, Bool, true, false, ℕ, ◌/◌, ◌^◌, ◌≤◌, ◌<◌, length, get_or, Result, Ok}
use Rattle.refusal.specs.declared.Refusal.{Refusal}
use mathlib.Core.List.{List, [], ◌∷◌, Memᴰ}
use Rattle.cube.specs.Cube.{Taps}
use Rattle.cube.specs.Mask.{WellFormed, points}
use Rattle.order.specs.BuiltIn.{graded}
use Rattle.refusal.specs.Rule.{Rule, ◌unless◌, FirstBroken}
use Rattle.refusal.specs.Outcome.{refused, accepted, outcome_of}
use Rattle.polynomial.specs.Polynomial.{Polynomial, UpTo}
use Rattle.gf2.specs.Rank.{Rank}
use Rattle.point_rows.specs.Rows.{rows}
use Rattle.filter.specs.Part.{part}
use Rattle.filter.specs.Outside.{Outside}
use Rattle.immunity.specs.Annihilator.{Annihilator}
use Rattle.immunity.specs.Judgement.{Judgement, GivenEqual}
use Rattle.immunity.specs.Certificate.{bit_of, Certifies}
use Rattle.judge.specs.Judge.{JudgeAccepts}
use Rattle.certify.specs.Certify.{certify_outcome, CertifyContract}
use Rattle.checker.specs.Check.{check_outcome, CheckContract, CheckAccepts}
use Rattle.demands.specs.JudgementWords.{SameRank}

-- 1: set, table, or a certificate of 4,096 numbers; 4; 8 for the set, then the table; 10: d over n; 11: side over 1
abbrev pub check_rules : List ℕ → List ℕ → ℕ → ℕ → ℕ → ℕ → List Rule
check_rules s f n side d l =
    1 unless (length s ≡ 512)
    ∷ 1 unless (length f ≡ 512)
    ∷ 1 unless (l ≡ 4096)
    ∷ 4 unless Taps n
    ∷ 8 unless WellFormed n s
    ∷ 8 unless WellFormed n f
    ∷ 10 unless (d ≤ n)
    ∷ 11 unless (side ≤ 1)
    ∷ []

-- every rule holds
abbrev pub Admitted : List ℕ → List ℕ → ℕ → ℕ → ℕ → List ℕ → Type 0
Admitted s f n side d c = (k : ℕ) → ¬ FirstBroken (check_rules s f n side d (length c)) k

-- what is promised of Check; c is any list of numbers, whoever made it, and of a number only the bits 0 to 63 are read
pub record AnyCertificate : Type 0 where
  -- a refusal is by the number of the first rule that does not hold
  pub refuses : (s f : List ℕ) (n side d : ℕ) (c : List ℕ) (k : ℕ)
      → (check_outcome graded s f n side d c ≡ refused k) ↔ FirstBroken (check_rules s f n side d (length c)) k
  -- its checks are those of Certify without the workspace and without 12: with a workspace of the right length, Certify refuses by the same
  -- number what Check refuses, and all else that it refuses by 12
  pub refuses_as_certify : (s f : List ℕ) (n side d : ℕ) (c : List ℕ) (k : ℕ)
      → (check_outcome graded s f n side d c ≡ refused k) ↔ ((certify_outcome graded s f n side d 8192 (length c) ≡ refused k) × (k ≢ 12))
  -- yes exactly when each point of S outside the part has only points of the part chosen, their rows at d sum to its row, and every other bit is 0
  pub exact : (s f : List ℕ) (n side d : ℕ) (c : List ℕ) (b : Bool) → CheckAccepts graded n s f side d c b
      → (b ≡ true) ↔ Certifies graded n d (points s) (part side s f) c
  -- so after a yes a bit is 1 only for a point of S outside the part, and only at a point of the part,
  pub yes_bits : (s f : List ℕ) (n side d : ℕ) (c : List ℕ) → CheckAccepts graded n s f side d c true
      → (a q : ℕ) → q < 512 → bit_of c a q ≡ true → Outside (points s) (part side s f) a × Memᴰ q (part side s f)
  -- and, of numbers of 64 bits, those of every other point are 0
  pub yes_others : (s f : List ℕ) (n side d : ℕ) (c : List ℕ) → CheckAccepts graded n s f side d c true → ((i : ℕ) → get_or c i 0 < 2 ^ 64)
      → (i : ℕ) → ¬ Outside (points s) (part side s f) (i / 8) → get_or c i 0 ≡ 0
  -- the code answers yes exactly where every rule holds and c is a certificate,
  pub says_yes : (s f : List ℕ) (n side d : ℕ) (c : List ℕ) (r : Result Bool Refusal) → CheckContract graded s f n side d c r
      → (r ≡ Ok true) ↔ (Admitted s f n side d c × Certifies graded n d (points s) (part side s f) c)
  -- no exactly where every rule holds and it is none,
  pub says_no : (s f : List ℕ) (n side d : ℕ) (c : List ℕ) (r : Result Bool Refusal) → CheckContract graded s f n side d c r
      → (r ≡ Ok false) ↔ (Admitted s f n side d c × (¬ Certifies graded n d (points s) (part side s f) c))
  -- and else the number of the first rule that does not hold
  pub says_number : (s f : List ℕ) (n side d : ℕ) (c : List ℕ) (r : Result Bool Refusal) (k : ℕ) → CheckContract graded s f n side d c r
      → (outcome_of r ≡ refused k) ↔ FirstBroken (check_rules s f n side d (length c)) k
  -- a yes implies that the ranks of S and of the part at d are equal,
  pub yes_equal : (s f : List ℕ) (n side d : ℕ) (c : List ℕ) → CheckAccepts graded n s f side d c true → SameRank n d (points s) (part side s f)
  -- that Judge accepts n, S and f and gives two equal ranks,
  pub yes_judged : (s f : List ℕ) (n side d : ℕ) (c : List ℕ) → CheckAccepts graded n s f side d c true
      → (j : Judgement) × JudgeAccepts graded n s f j × GivenEqual j side d
  -- and that no polynomial up to d is zero on the part and one somewhere on S
  pub yes_none : (s f : List ℕ) (n side d : ℕ) (c : List ℕ) → CheckAccepts graded n s f side d c true
      → (p : Polynomial) → UpTo n d p → ¬ Annihilator n p (part side s f) (points s)
  -- each certificate that Certify writes gets a yes for the same n, set, table, side and d
  pub written_yes : (s f : List ℕ) (n side d m l : ℕ) (c : List ℕ) → certify_outcome graded s f n side d m l ≡ accepted c
      → CheckAccepts graded n s f side d c true
  -- so the code says yes to what the code of Certify leaves in the buffer that it is lent
  pub left_yes : (s f : List ℕ) (n side d : ℕ) (ws ws' c c' : List ℕ) (r : Result Bool Refusal)
      → CertifyContract (certify_outcome graded s f n side d (length ws) (length c)) ws ws' c c' (Ok tt)
      → CheckContract graded s f n side d c' r → r ≡ Ok true
  -- where the ranks differ every certificate gets a no,
  pub differ_no : (s f : List ℕ) (n side d : ℕ) (c : List ℕ) (p q : ℕ) → Admitted s f n side d c
      → Rank (rows graded n d (points s)) p → Rank (rows graded n d (part side s f)) q → p ≢ q → CheckAccepts graded n s f side d c false
  -- those that Judge gives,
  pub differ_judged : (s f : List ℕ) (n side d : ℕ) (c : List ℕ) (j : Judgement) → length c ≡ 4096 → side ≤ 1 → d ≤ n
      → JudgeAccepts graded n s f j → ¬ GivenEqual j side d → CheckAccepts graded n s f side d c false
  -- and those for which Certify refuses by 12
  pub refused_no : (s f : List ℕ) (n side d m l : ℕ) (c : List ℕ) → length c ≡ 4096 → certify_outcome graded s f n side d m l ≡ refused 12
      → CheckAccepts graded n s f side d c false
