-- Masks filled byte by byte, from the front.
--   Fills t b a    of the bytes b those below a are 1 at what passes the test t, and the others are 0
--   fills_none     zeros: nothing is filled
--   fills_next     one byte more
--   fills_all      filled up to m, it is the mask of what is below m and passes
use mathlib.Core.Path.{◌≡◌, sym, ◌∙◌}
use mathlib.Core.Bool.{Bool, ◌&&◌}
use mathlib.Core.List.{List}
use Prim.Native.Nat.{ℕ, ◌+◌, ◌≤◌, ◌<◌}
use native.Mathlib.Omega.{arith}
use native.Mathlib.Decide.{dec_lt}
use lib.Dec.{ltb}
use lib.ListN.{length, get_or, set, replicate, length-set, length-replicate, get_or-replicate, get_or-eq_default}
use lib.Seq.{ext_get_or, get_or-set_same, get_or-set_other}
use borrow.Author.Count.{below_none, below_more}
use borrow.Author.Tests.{lt-ltb, le-ltb}
use Rattle.cube.specs.Mask.{byte, mask}
use Rattle.cube.proofs.Masks.{value_at}
use Rattle.cube.proofs.MaskOf.{length_mask}

-- the bytes below a are those of a test, the others 0
pub record Fills (t : ℕ → Bool) (b : List ℕ) (a : ℕ) : Type 0 where
  pub long : length b ≡ 512
  pub front : (i : ℕ) → i < a → get_or b i 0 ≡ byte (t i)
  pub rest : (i : ℕ) → a ≤ i → get_or b i 0 ≡ 0

-- nothing is filled
pub fills_none : (t : ℕ → Bool) → Fills t (replicate 512 0) 0
fills_none t = record {
  long = length-replicate {A = ℕ} 512 0;
  front = below_none _;
  rest = λ i l. elim (dec_lt i 512) [
    | yes q ↦ get_or-replicate {A = ℕ} 512 i 0 0 q
    | no q ↦ get_or-eq_default (replicate 512 0) 0 {n = i} (omega (arith, length-replicate {A = ℕ} 512 0))
  ];
}

-- one byte more
pub fills_next : (t : ℕ → Bool) (b : List ℕ) (a x : ℕ) → Fills t b a → a < 512 → x ≡ byte (t a) → Fills t (set b a x) (a + 1)
fills_next t b a x h l e = record {
  long = length-set b a x ∙ h.long;
  front = below_more _ a (λ i m. get_or-set_other b a i x 0 (omega arith) ∙ h.front i m) (get_or-set_same b a x 0 (omega (arith, h.long)) ∙ e);
  rest = λ i m. get_or-set_other b a i x 0 (omega arith) ∙ h.rest i (omega arith);
}

-- filled up to m, it is the mask of what is below m and passes
pub fills_all : (t : ℕ → Bool) (b : List ℕ) (m : ℕ) → Fills t b m → b ≡ mask (λ i. ltb i m && t i)
fills_all t b m h =
    ext_get_or 0 b (mask (λ i. ltb i m && t i)) (h.long ∙ sym (length_mask (λ i. ltb i m && t i))) (λ i l. elim (dec_lt i m) [
      | yes q ↦ h.front i q ∙ sym (at i (omega (arith, h.long)) ∙ rw (lt-ltb i m q))
      | no q ↦ h.rest i (omega arith) ∙ sym (at i (omega (arith, h.long)) ∙ rw (le-ltb i m (omega arith)))
    ])
  where
    at : (i : ℕ) → i < 512 → get_or (mask (λ j. ltb j m && t j)) i 0 ≡ byte (ltb i m && t i)
    at i l = value_at (λ j. byte (ltb j m && t j)) 512 i 0 l
