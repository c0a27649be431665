-- What is promised of Rearrange, sentence by sentence, about the definitions that the contracts of Rearrange, Rank and Judge equate
-- with what the code answers and leaves: docs/SPECIFICATION.md, 'Rearrange'.
--   rearrange_rules s f n ts        the rules of Rearrange, lent the set s, the table f and the wiring ts, in the order of checking
--   FilterOf n s f                  n, the set s and the table f obey the rules
--   Rearranges n ts s s' f f' r     lent n, the set s, the table f and the wiring ts, Rearrange answers r and leaves s' and f' in the two buffers
--   OldPoint n ts a p               p is the old point of the new point a: its tap `entry i` is tap i of a
--   RankedAlike o n b b'            Rank, lent buffers of the right lengths, accepts the masks b and b' at each degree, and answers the same rank for both, in the order o
--   JudgedAlike o n s s' f f'       Judge, lent such buffers, accepts the set s and the table f, and s' and f', with the same ranks, mark, degree, side and sides' own degrees
--   AnyWiring                       what is promised of Rearrange
use Rattle.std.specs.Prelude.{◌≡◌, ◌↔◌, List, [], ◌∷◌, ℕ, suc, ◌-◌, ◌/◌, ◌%◌, ◌^◌, ◌≤◌, ◌<◌, length, get_or, Result, Ok}
use Rattle.refusal.specs.Verdict.{Verdict}
use Rattle.refusal.specs.declared.Refusal.{Refusal}
use Rattle.cube.specs.NumberLists.{lists}
use Rattle.cube.specs.Cube.{size, Taps}
use Rattle.cube.specs.Mask.{WellFormed, points, mask}
use Rattle.order.specs.BuiltIn.{graded}
use Rattle.order.specs.Order.{Graded}
use Rattle.refusal.specs.Rule.{Rule, ◌unless◌, FirstBroken}
use Rattle.refusal.specs.Outcome.{refused, accepted}
use Rattle.filter.specs.Part.{part}
use Rattle.filter.specs.Sides.{Sides}
use Rattle.matrix.specs.declared.rank.Ranked.{Ranked}
use Rattle.matrix.specs.Rank.{rank_outcome, RankContract}
use Rattle.immunity.specs.Judgement.{Judgement}
use Rattle.immunity.specs.SameJudged.{SameJudged}
use Rattle.judge.specs.declared.JudgeAnswer.{JudgeAnswer}
use Rattle.judge.specs.Judge.{judge_outcome, outcome_of as judge_outcome_of, JudgeContract}
use Rattle.wiring.specs.Wiring.{Wiring, tap, inverse, identity}
use Rattle.rearrange.specs.Rearrange.{rearrange_outcome, outcome_of, RearrangeContract}

-- 1: set or table; 4; 8 for the set, then the table; 14: n entries that name each of the taps 1 to n once
abbrev pub rearrange_rules : List ℕ → List ℕ → ℕ → List ℕ → List Rule
rearrange_rules s f n ts =
    1 unless (length s ≡ 512)
    ∷ 1 unless (length f ≡ 512)
    ∷ 4 unless Taps n
    ∷ 8 unless WellFormed n s
    ∷ 8 unless WellFormed n f
    ∷ 14 unless Wiring n ts
    ∷ []

-- 512 bytes each, 1 to 9 taps, the 0/1/0 rule
abbrev pub FilterOf : ℕ → List ℕ → List ℕ → Type 0
FilterOf n s f = (length s ≡ 512) × (length f ≡ 512) × Taps n × WellFormed n s × WellFormed n f

-- what the code answers, and leaves in the buffers
abbrev pub Rearranges : ℕ → List ℕ → List ℕ → List ℕ → List ℕ → List ℕ → Verdict → Type 0
Rearranges n ts s s' f f' r = RearrangeContract (rearrange_outcome s f n ts) s s' f f' r

-- tap `entry i` of the old point is tap i of the new one
pub record OldPoint (n : ℕ) (ts : List ℕ) (a p : ℕ) : Type 0 where
  pub inside : p < size n
  pub taps : (i : ℕ) → i < n → tap n (get_or ts i 0) p ≡ tap n (suc i) a

-- accepted, with the same rank, at each degree; additions and kept points are not compared
abbrev pub RankedAlike : List ℕ → ℕ → List ℕ → List ℕ → Type 0
RankedAlike o n b b' = (d : ℕ) (ws ws' m m' v v' l l' : List ℕ) (a q : Result Ranked Refusal) → d ≤ n
    → length ws ≡ 8192 → length v ≡ 8192 → length m ≡ 512 → length l ≡ 512
    → RankContract (rank_outcome o b n d (length ws) (length m)) ws ws' m m' a → RankContract (rank_outcome o b' n d (length v) (length l)) v v' l l' q
    → (x : Ranked) × (y : Ranked) × (a ≡ Ok x) × (q ≡ Ok y) × (x.rank ≡ y.rank)

-- accepted, with judgements that are the same but for additions, witnesses and kept points
abbrev pub JudgedAlike : List ℕ → ℕ → List ℕ → List ℕ → List ℕ → List ℕ → Type 0
JudgedAlike o n s s' f f' = (ws ws' v v' : List ℕ) (w w' x x' : Sides (List ℕ)) (m m' l l' : List ℕ) (a q : Result JudgeAnswer Refusal)
    → length ws ≡ 8192 → length w.one ≡ 512 → length w.zero ≡ 512 → length m ≡ 512
    → length v ≡ 8192 → length x.one ≡ 512 → length x.zero ≡ 512 → length l ≡ 512
    → JudgeContract (judge_outcome o s f n (length ws) (length w.one) (length w.zero) (length m)) ws ws' w w' m m' a
    → JudgeContract (judge_outcome o s' f' n (length v) (length x.one) (length x.zero) (length l)) v v' x x' l l' q
    → (j : Judgement) × (j' : Judgement) × (judge_outcome_of a w' m' ≡ accepted j) × (judge_outcome_of q x' l' ≡ accepted j') × SameJudged j j'

-- what is promised of Rearrange; o is any graded order of the monomials, the built-in one among them
pub record AnyWiring : Type 0 where
  -- a refusal is by the number of the first rule that does not hold,
  pub refuses : (n : ℕ) (s f ts : List ℕ) (k : ℕ) → (rearrange_outcome s f n ts ≡ refused k) ↔ FirstBroken (rearrange_rules s f n ts) k
  -- and the code answers that number
  pub answers : (n : ℕ) (ts s s' f f' : List ℕ) (r : Verdict) (k : ℕ) → Rearranges n ts s s' f f' r
      → (outcome_of r s' f' ≡ refused k) ↔ FirstBroken (rearrange_rules s f n ts) k
  -- it accepts exactly each filter with each wiring,
  pub accepts : (n : ℕ) (ts s s' f f' : List ℕ) (r : Verdict) → Rearranges n ts s s' f f' r
      → (r ≡ Ok tt) ↔ (FilterOf n s f × Wiring n ts)
  -- and gives 14 exactly to a filter with what is no wiring:
  pub no_wiring : (n : ℕ) (ts s s' f f' : List ℕ) (r : Verdict) → Rearranges n ts s s' f f' r
      → (outcome_of r s' f' ≡ refused 14) ↔ (FilterOf n s f × (¬ Wiring n ts))
  -- a wiring has n entries, and each of the taps 1 to n is named at one place
  pub named_once : (n : ℕ) (ts : List ℕ) → Wiring n ts
      ↔ ((length ts ≡ n) × ((t : ℕ) → 1 ≤ t → t ≤ n → (i : ℕ) × (i < n) × (get_or ts i 0 ≡ t) × ((j : ℕ) → j < n → get_or ts j 0 ≡ t → j ≡ i)))
  -- tap t of a point is its bit n - t: tap 1 is the highest bit
  pub tap_bit : (n t a : ℕ) → tap n t a ≡ a / 2 ^ (n - t) % 2
  -- each new point has one old point, whose tap `entry i` is its tap i,
  pub one_old_point : (n : ℕ) (ts : List ℕ) → Wiring n ts → (a : ℕ) → (p : ℕ) × OldPoint n ts a p × ((q : ℕ) → OldPoint n ts a q → q ≡ p)
  -- and what is left has at each new point the bytes of its old one, of the set and of the table,
  pub moved : (n : ℕ) (ts s s' f f' : List ℕ) → Rearranges n ts s s' f f' (Ok tt) → (a p : ℕ) → a < size n → OldPoint n ts a p
      → (get_or s' a 0 ≡ get_or s p 0) × (get_or f' a 0 ≡ get_or f p 0)
  -- and is a filter of n taps again, with 0 from N on
  pub filter : (n : ℕ) (ts s s' f f' : List ℕ) → Rearranges n ts s s' f f' (Ok tt) → FilterOf n s' f'
  -- the set has as many points as before,
  pub count : (n : ℕ) (ts s s' f f' : List ℕ) → Rearranges n ts s s' f f' (Ok tt) → length (points s') ≡ length (points s)
  -- and so has each part
  pub part_count : (n : ℕ) (ts s s' f f' : List ℕ) → Rearranges n ts s s' f f' (Ok tt) → (side : ℕ) → length (part side s' f') ≡ length (part side s f)
  -- the inverse is a wiring: at the place of each old tap it has the new one,
  pub inverse_wiring : (n : ℕ) (ts : List ℕ) → Wiring n ts → Wiring n (inverse n ts)
  pub inverse_entry : (n : ℕ) (ts : List ℕ) → Wiring n ts → (i t : ℕ) → i < n → get_or ts i 0 ≡ suc t → get_or (inverse n ts) t 0 ≡ suc i
  -- lent it and what the wiring left, the code accepts and restores both buffers, all bytes,
  pub restores : (n : ℕ) (ts s s' s'' f f' f'' : List ℕ) (r : Verdict) → Rearranges n ts s s' f f' (Ok tt)
      → Rearranges n (inverse n ts) s' s'' f' f'' r → (r ≡ Ok tt) × (s'' ≡ s) × (f'' ≡ f)
  -- and so does the wiring where the inverse came first
  pub restores_inverse : (n : ℕ) (ts s s' s'' f f' f'' : List ℕ) (r : Verdict) → Wiring n ts → Rearranges n (inverse n ts) s s' f f' (Ok tt)
      → Rearranges n ts s' s'' f' f'' r → (r ≡ Ok tt) × (s'' ≡ s) × (f'' ≡ f)
  -- the identity is the list that names each tap at its own place,
  pub identity_entry : (n : ℕ) (ts : List ℕ) → (ts ≡ identity n) ↔ ((length ts ≡ n) × ((i : ℕ) → i < n → get_or ts i 0 ≡ suc i))
  -- and lent it and a filter, the code accepts and changes nothing
  pub unchanged : (n : ℕ) (s s' f f' : List ℕ) (r : Verdict) → FilterOf n s f → Rearranges n (identity n) s s' f f' r
      → (r ≡ Ok tt) × (s' ≡ s) × (f' ≡ f)
  -- the order by which Rank and Judge go is graded, so what follows is said of it
  pub built_in : Graded graded
  -- Rank answers the same rank before and after, at each degree: of the set, which may be any mask,
  pub rank_of_set : (n : ℕ) (ts s s' f f' : List ℕ) → Rearranges n ts s s' f f' (Ok tt) → (o : List ℕ) → Graded o → RankedAlike o n s s'
  -- of the table, which may be any mask too,
  pub table_rank : (n : ℕ) (ts s s' f f' : List ℕ) → Rearranges n ts s s' f f' (Ok tt) → (o : List ℕ) → Graded o → RankedAlike o n f f'
  -- and of the mask of each part
  pub part_rank : (n : ℕ) (ts s s' f f' : List ℕ) → Rearranges n ts s s' f f' (Ok tt) → (o : List ℕ) → Graded o
      → (side : ℕ) → RankedAlike o n (mask (lists (part side s f))) (mask (lists (part side s' f')))
  -- Judge gives the same ranks of the set and of each part at every degree before and after, and so the same degree, side, sides' own degrees and mark
  pub judged : (n : ℕ) (ts s s' f f' : List ℕ) → Rearranges n ts s s' f f' (Ok tt) → (o : List ℕ) → Graded o → JudgedAlike o n s s' f f'
