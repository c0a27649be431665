-- The sentences on what Hand over hands back hold.
--   hand_over_words   each of them
use mathlib.Core.Path.{◌≡◌, refl, ◌∙◌}
use mathlib.Core.Bool.{Bool, true, false}
use mathlib.Core.List.{List, []}
use Prim.Native.Nat.{ℕ, ◌≤◌}
use lib.ListN.{length}
use borrow.Author.Tests.{eqb-true, eq-eqb, leb-true, le-leb}
use Rattle.cube.specs.Cube.{Taps}
use Rattle.cube.proofs.Listed.{and_both}
use Rattle.cube.proofs.Taps.{taps_range}
use Rattle.filter.specs.Sides.{Sides}
use Rattle.hand_over.specs.HandOver.{right, handed, HandOverContract}
use Rattle.demands.specs.JudgementWords.{HandOverWords}

-- what the tests show
shows : (n side k l : ℕ) → right n side k l ≡ true → Taps n × (side ≤ 1) × (k ≡ 512) × (l ≡ 512)
shows n side k l e =
    let (tests, up) = and_both _ _ e in
    let (lengths, tapped) = and_both _ _ tests in
    let (one, zero) = and_both _ _ lengths in
    ((taps_range n).0 tapped, leb-true side 1 up, eqb-true k 512 one, eqb-true l 512 zero)

-- each of them
pub hand_over_words : (n side : ℕ) (w : Sides (List ℕ)) (part : List ℕ) → HandOverContract n side w part → HandOverWords n side w part
hand_over_words n side w part h = record {
  handed_back = λ t up one zero. h.answers ∙ rw (eq-eqb _ _ one, eq-eqb _ _ zero, (taps_range n).1 t, le-leb side 1 up);
  empty = λ wrong. h.answers ∙ go (right n side (length w.one) (length w.zero)) refl wrong;
}
  where
    go : (b : Bool) → right n side (length w.one) (length w.zero) ≡ b → (Taps n × (side ≤ 1) × (length w.one ≡ 512) × (length w.zero ≡ 512) → ⊥)
        → handed n side w ≡ []
    go true e wrong = absurd (wrong (shows n side _ _ e))
    go false e wrong = rw e
