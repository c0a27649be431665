-- Refusals are by the number of the first rule that does not hold.
--   coefficient_says   that some coefficient is 1, as a test
--   same_rank          equal ranks are the same rank
--   convert_refuses    what Convert refuses
--   degree_refuses     what Degree refuses
--   rank_refuses       what Rank refuses
--   judge_refuses      what Judge refuses
--   certify_refuses    what Certify refuses
--   check_refuses      what Check refuses
--   write_refuses      what Write refuses
--   rearrange_refuses  what Rearrange refuses
use mathlib.Core.Path.{◌≡◌, sym, ap, ◌∙◌, subst}
use mathlib.Core.Logic.{◌↔◌}
use mathlib.Core.Bool.{true, not}
use mathlib.Core.List.{List, ◌++◌}
use Prim.Native.Nat.{ℕ, ◌≤◌}
use lib.Dec.{eqb, leb}
use lib.ListN.{length}
use borrow.Author.Tests.{eqb-true, eq-eqb, leb-true, le-leb, not-true, not-false}
use Rattle.refusal.specs.Rule.{FirstBroken}
use Rattle.refusal.specs.Outcome.{refused}
use Rattle.refusal.proofs.Rules.{nothing, ◌also◌, refused_first}
use Rattle.cube.specs.NumberLists.{is_empty, largest}
use Rattle.cube.specs.Cube.{weight}
use Rattle.cube.specs.Mask.{member, points}
use Rattle.cube.proofs.Taps.{taps_range}
use Rattle.cube.proofs.Masks.{formed_says, has_point_says, member_points}
use Rattle.order.specs.BuiltIn.{graded}
use Rattle.polynomial.specs.Convert.{convert_checks, convert_outcome}
use Rattle.polynomial.specs.Degree.{exponents, degree_checks, degree_outcome}
use Rattle.gf2.specs.Rank.{Rank}
use Rattle.gf2.proofs.Rank.{rank_unique}
use Rattle.point_rows.specs.Rows.{rows}
use Rattle.matrix.specs.Matrix.{rank_of}
use Rattle.matrix.specs.Rank.{ranking, rank_checks, rank_outcome}
use Rattle.matrix.proofs.RankOf.{rank_of_lem}
use Rattle.filter.specs.Part.{part}
use Rattle.filter_file.specs.Write.{file_of, write_inputs, room_for, write_outcome}
use Rattle.immunity.specs.Judgement.{EqualRanks, differs, judged}
use Rattle.immunity.specs.Certificate.{certificate}
use Rattle.immunity.specs.CertificateTest.{certifies}
use Rattle.judge.specs.Judge.{judge_checks, judge_outcome}
use Rattle.certify.specs.Certify.{certify_inputs, ranks_equal, certify_outcome}
use Rattle.checker.specs.Check.{check_inputs, check_outcome}
use Rattle.rearrange.specs.Rearrange.{rearranged, rearrange_checks, rearrange_outcome}
use Rattle.wiring.proofs.Tested.{wiring_tested}
use Rattle.demands.specs.JudgementWords.{SameRank, rank_rules, judge_rules, certify_rules}
use Rattle.demands.specs.Check.{check_rules}
use Rattle.demands.specs.NormalFormWords.{convert_rules, degree_rules}
use Rattle.demands.specs.Rearrange.{rearrange_rules}
use Rattle.demands.specs.Write.{write_rules}

-- two numbers are equal
equal_says : (a b : ℕ) → (eqb a b ≡ true) ↔ (a ≡ b)
equal_says a b = (eqb-true a b, eq-eqb a b)

-- one is at most the other
most_says : (a b : ℕ) → (leb a b ≡ true) ↔ (a ≤ b)
most_says a b = (leb-true a b, le-leb a b)

-- equal ranks are the same rank
pub same_rank : (n d : ℕ) (s f : List ℕ) (side : ℕ) → EqualRanks graded n s f side d ↔ SameRank n d (points s) (part side s f)
same_rank n d s f side = (
  λ e. (rank_of graded n d (points s), rank_of_lem graded n d (points s), subst (Rank (rows graded n d (part side s f))) (sym e) (rank_of_lem graded n d (part side s f))),
  λ (r, set, part_rank). rank_unique (rank_of_lem graded n d (points s)) set ∙ rank_unique part_rank (rank_of_lem graded n d (part side s f)),
)

-- a side does not differ
equal_ranks_say : (n d : ℕ) (s f : List ℕ) (side : ℕ) → (not (differs graded n s f d side) ≡ true) ↔ SameRank n d (points s) (part side s f)
unfolding differs
equal_ranks_say n d s f side = (
  λ e. (same_rank n d s f side).0 (eqb-true _ _ (not-false _ (not-true _ e))),
  λ h. let e : EqualRanks graded n s f side d = (same_rank n d s f side).1 h in rw (eq-eqb _ _ e),
)

-- some coefficient is 1
pub coefficient_says : (b : List ℕ) → (not (is_empty (exponents b)) ≡ true) ↔ ((u : ℕ) × (member b u ≡ true))
coefficient_says b = (
  λ e. let (u, m) = (has_point_says b).0 (not-true _ e) in (u, (member_points b u).0 m),
  λ (u, e). ap not ((has_point_says b).1 (u, (member_points b u).1 e)),
)

-- what Convert refuses
pub convert_refuses : (n : ℕ) (b : List ℕ) (k : ℕ) → (convert_outcome n b ≡ refused k) ↔ FirstBroken (convert_rules b n) k
unfolding convert_outcome
convert_refuses n b k = refused_first tt k {cs = convert_checks n b} {rs = convert_rules b n} (equal_says (length b) 512 also taps_range n also formed_says n b also nothing)

-- what Degree refuses
pub degree_refuses : (n : ℕ) (b : List ℕ) (k : ℕ) → (degree_outcome n b ≡ refused k) ↔ FirstBroken (degree_rules b n) k
unfolding degree_outcome
degree_refuses n b k = refused_first (largest weight (exponents b)) k {cs = degree_checks n b} {rs = degree_rules b n}
    (equal_says (length b) 512 also taps_range n also formed_says n b also coefficient_says b also nothing)

-- what Rank refuses
pub rank_refuses : (b : List ℕ) (n d m l k : ℕ) → (rank_outcome graded b n d m l ≡ refused k) ↔ FirstBroken (rank_rules b n d m l) k
unfolding rank_outcome
rank_refuses b n d m l k = refused_first (ranking graded n d (points b)) k {cs = rank_checks b n d m l} {rs = rank_rules b n d m l}
    (equal_says (length b) 512 also equal_says m 8192 also equal_says l 512 also taps_range n also formed_says n b also most_says d n also nothing)

-- what Judge refuses
pub judge_refuses : (n : ℕ) (s f : List ℕ) (m p q l k : ℕ) → (judge_outcome graded s f n m p q l ≡ refused k) ↔ FirstBroken (judge_rules s f n m p q l) k
unfolding judge_outcome
judge_refuses n s f m p q l k = refused_first (judged graded n s f) k {cs = judge_checks s f n m p q l} {rs = judge_rules s f n m p q l}
    (equal_says (length s) 512 also equal_says (length f) 512 also equal_says m 8192 also equal_says p 512 also equal_says q 512 also equal_says l 512
    also taps_range n also formed_says n s also formed_says n f also nothing)

-- what Certify refuses
pub certify_refuses : (n : ℕ) (s f : List ℕ) (side d m l k : ℕ) → (certify_outcome graded s f n side d m l ≡ refused k)
    ↔ FirstBroken (certify_rules s f n side d m l) k
unfolding certify_outcome
certify_refuses n s f side d m l k = refused_first (certificate graded n s f side d) k
    {cs = certify_inputs s f n side d m l ++ ranks_equal graded s f n side d} {rs = certify_rules s f n side d m l}
    (equal_says (length s) 512 also equal_says (length f) 512 also equal_says m 8192 also equal_says l 4096 also taps_range n
    also formed_says n s also formed_says n f also most_says d n also most_says side 1 also equal_ranks_say n d s f side also nothing)

-- what Check refuses
pub check_refuses : (s f : List ℕ) (n side d : ℕ) (c : List ℕ) (k : ℕ) → (check_outcome graded s f n side d c ≡ refused k)
    ↔ FirstBroken (check_rules s f n side d (length c)) k
unfolding check_outcome
check_refuses s f n side d c k = refused_first (certifies graded n d (points s) (part side s f) c) k
    {cs = check_inputs s f n side d (length c)} {rs = check_rules s f n side d (length c)}
    (equal_says (length s) 512 also equal_says (length f) 512 also equal_says (length c) 4096 also taps_range n
    also formed_says n s also formed_says n f also most_says d n also most_says side 1 also nothing)

-- what Write refuses
pub write_refuses : (n : ℕ) (s f : List ℕ) (m k : ℕ) → (write_outcome s f n m ≡ refused k) ↔ FirstBroken (write_rules s f n m) k
unfolding write_outcome
write_refuses n s f m k = refused_first (file_of n s f) k {cs = write_inputs s f n ++ room_for (length (file_of n s f)) m} {rs = write_rules s f n m}
    (equal_says (length s) 512 also equal_says (length f) 512 also taps_range n also formed_says n s also formed_says n f
    also most_says (length (file_of n s f)) m also nothing)

-- what Rearrange refuses
pub rearrange_refuses : (n : ℕ) (s f ts : List ℕ) (k : ℕ) → (rearrange_outcome s f n ts ≡ refused k) ↔ FirstBroken (rearrange_rules s f n ts) k
unfolding rearrange_outcome
rearrange_refuses n s f ts k = refused_first (rearranged n ts s f) k {cs = rearrange_checks s f n ts} {rs = rearrange_rules s f n ts}
    (equal_says (length s) 512 also equal_says (length f) 512 also taps_range n also formed_says n s also formed_says n f also wiring_tested n ts also nothing)
