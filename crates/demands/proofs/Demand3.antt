-- Demand 3 holds.
--   demand3   every sentence of demand 3
use mathlib.Core.List.{List}
use mathlib.Core.Path.{◌≡◌}
use mathlib.Core.Logic.{◌↔◌, inl, inr}
use Prim.Native.Nat.{ℕ, ◌≤◌}
use native.Mathlib.Omega.{arith}
use Rattle.std.specs.Prelude.{Some}
use Rattle.cube.specs.Mask.{points}
use Rattle.order.specs.BuiltIn.{graded}
use Rattle.order.proofs.BuiltIn.{graded_is_graded}
use Rattle.filter.specs.Filter.{Filter}
use Rattle.filter.specs.Part.{part}
use Rattle.filter.proofs.Filters.{few_taps, set_below}
use Rattle.immunity.specs.Judgement.{EqualRanks, reported, judged, GivenEqual}
use Rattle.immunity.specs.Certificate.{Certifies, certificate}
use Rattle.immunity.proofs.PartPoints.{part_rising}
use Rattle.immunity.proofs.Given.{equal_given}
use Rattle.immunity.proofs.Reported.{FirstDiffers, equal_just, reported_first}
use Rattle.immunity.proofs.NoPoint.{equal_at_all, annihilates_none, reported_point, none_empty}
use Rattle.immunity.proofs.WitnessBuffers.{witness_degree, buffer_holds}
use Rattle.immunity.proofs.Certificates.{certificate_is, is_certifies}
use Rattle.judge.proofs.Passed.{judge_accepted}
use Rattle.certify.specs.Certify.{CertifyAccepts}
use Rattle.certify.proofs.Compared.{certify_accepts}
use Rattle.demands.specs.Demands.{Reported3, Judgement3, Demand3}

-- demand 3 of one n, set and table
judgement3 : (n : ℕ) (s f : List ℕ) → Filter n s f → Judgement3 n s f (judged graded n s f)
unfolding judged
judgement3 n s f p = record {
  equal = λ side d l m. let e = equal_just graded_is_graded small s f side d in (λ q. e.0 ((given side d l m).0 q), λ h. (given side d l m).1 (e.1 h));
  certified = λ side d l m e. certified side d l m ((given side d l m).0 e);
  exists = reported_point graded_is_graded n s f p;
  reported = first;
  none_differs = λ e side d l m. (given side d l m).1 (equal_at_all graded n s f (none_empty graded_is_graded n s f p e) side d);
  none_annihilates = λ e side q l. annihilates_none graded n s f (none_empty graded_is_graded n s f p e) side q;
}
  where
    small : n ≤ 9
    small = few_taps n s f p

    -- the ranks given are equal exactly where the ranks are
    given : (side d : ℕ) → side ≤ 1 → d ≤ n → GivenEqual (judged graded n s f) side d ↔ EqualRanks graded n s f side d
    given side d l m = equal_given graded n s f d m small side l

    -- the certificate of a side and a degree at which they are
    certified : (side d : ℕ) → side ≤ 1 → d ≤ n → EqualRanks graded n s f side d
        → (c : List ℕ) × CertifyAccepts graded n s f side d c × Certifies graded n d (points s) (part side s f) c
    certified side d l m e = (
      certificate graded n s f side d,
      certify_accepts n s f side d graded p l m e,
      is_certifies (part_rising side s f) (certificate_is graded n d s f side (set_below n s f p) e),
    )

    -- the reported degree
    first : (k : ℕ) → reported graded n s f ≡ Some k → Reported3 n s f (judged graded n s f) k
    first k is = let r : FirstDiffers graded n s f k = reported_first graded_is_graded small s f k is in record {
      within = r.within;
      before = λ side d l m. (given side d l (omega (arith, r.within))).1 (r.before side d l m);
      at = elim r.at [
        | inl h ↦ inl (λ e. h ((given 1 k (omega arith) r.within).0 e))
        | inr h ↦ inr (λ e. h ((given 0 k (omega arith) r.within).0 e))
      ];
      witness = λ side l h.
          rw (buffer_holds graded n s f side l k is) (witness_degree graded_is_graded small s f side k r l (λ e. h ((given side k l r.within).1 e)));
      least = λ side d q l a h. r.least side d q l a h.most;
    }

-- every sentence of demand 3
pub demand3 : Demand3
demand3 = record {
  every = λ n s f j e. let (h, is) = judge_accepted graded n s f j e in rw (← is) (judgement3 n s f h);
}
