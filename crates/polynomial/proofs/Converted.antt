-- What Convert answers and leaves, from the tests that it makes.
--   convert_refuses   a broken check
--   convert_fits      the points fit the buffer
--   convert_taps      there are at most nine taps
--   convert_asks      what the transform of the first N bytes asks
--   convert_accepts   no check is broken
use mathlib.Core.Path.{◌≡◌, sym, ap, ◌∙◌}
use mathlib.Core.List.{List, ◌++◌}
use Prim.Native.Nat.{ℕ, ◌≤◌}
use Rattle.std.specs.Prelude.{Ok, Err}
use native.Mathlib.Omega.{arith}
use lib.Dec.{eqb}
use lib.ListN.{length, take, drop}
use lib.Pow.{pow_mono}
use lib.Seq.{length-take-le, get_or-take}
use borrow.Author.Tests.{eqb-true}
use Rattle.cube.specs.Cube.{size}
use Rattle.cube.specs.Mask.{member}
use Rattle.cube.proofs.Taps.{taps_range}
use Rattle.cube.proofs.Masks.{byte_small}
use Rattle.refusal.specs.Refusal.{number_of}
use Rattle.refusal.specs.Outcome.{refused, accepted, left}
use Rattle.refusal.specs.declared.Refusal.{Refusal}
use Rattle.refusal.specs.Verdict.{verdict}
use Rattle.refusal.proofs.Verdicts.{passed_all, verdict_refuses, verdict_passes}
use Rattle.polynomial.specs.Convert.{Bits, values, converted, convert_checks, convert_outcome, convert_leaves, ConvertContract}
use Rattle.polynomial.proofs.Halves.{values_same}
use Rattle.polynomial.proofs.HalvesInPlace.{bits_take}

module _ (n : ℕ) (b : List ℕ) where
  -- a broken check
  pub convert_refuses : {x : Refusal} → verdict (convert_checks n b) ≡ Err x → ConvertContract n b b (Err x)
  unfolding convert_outcome convert_leaves
  convert_refuses {x} e =
      let broken : convert_outcome n b ≡ refused (number_of x) = verdict_refuses (convert_checks n b) (accepted tt) e in
      record { answers = sym broken; leaves = sym (ap (λ o. left o b (converted n b)) broken) }

  module _ (passed : verdict (convert_checks n b) ≡ Ok tt) where
    -- the points fit the buffer
    pub convert_fits : size n ≤ length b
    convert_fits =
        let (long, (tapped, _)) = passed_all (convert_checks n b) passed in
        omega (arith, eqb-true (length b) 512 long, pow_mono ((taps_range n).0 tapped).1)

    -- at most nine taps
    pub convert_taps : n ≤ 9
    convert_taps = let (_, (tapped, _)) = passed_all (convert_checks n b) passed in ((taps_range n).0 tapped).1

    -- what the transform of the first N bytes asks
    pub convert_asks : (length (take (size n) b) ≡ size n) × Bits (take (size n) b)
    convert_asks =
        let (_, (_, (formed, _))) = passed_all (convert_checks n b) passed in
        (length-take-le (size n) b convert_fits, bits_take (size n) b (λ k. byte_small (size n) b k formed))

    -- no check is broken
    pub convert_accepts : (r : List ℕ) → r ≡ values n (member (take (size n) b)) → ConvertContract n b (r ++ drop (size n) b) (Ok tt)
    unfolding convert_leaves convert_outcome converted
    convert_accepts r e =
        let passes : convert_outcome n b ≡ accepted tt = verdict_passes (convert_checks n b) (accepted tt) passed in
        let same : r ≡ values n (member b) = e ∙ values_same n _ _ (λ u l. ap (λ x. eqb x 1) (get_or-take (size n) b u 0 l)) in
        record {
          answers = sym passes;
          leaves = ap (λ x. x ++ drop (size n) b) same ∙ sym (ap (λ o. left o b (converted n b)) passes);
        }
