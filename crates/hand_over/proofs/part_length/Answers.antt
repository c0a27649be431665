use mathlib.Core.Path.{◌≡◌, sym, ap, ◌∙◌}
use mathlib.Core.Bool.{Bool, true, false, ◌&&◌}
use Prim.Native.Nat.{ℕ, ◌≤◌}
use native.Mathlib.Omega.{arith}
use lib.Dec.{eqb, leb}
use lib.Pow.{pow_mono}
use borrow.Author.Tests.{eqb-true}
use Rattle.cube.proofs.Listed.{and_both}
use Rattle.cube.proofs.Taps.{taps_range}
use Rattle.hand_over.specs.HandOver.{right, length_if}
use Rattle.hand_over.proofs.part_length.Goals as goal

-- what the tests show
right-shows : (n side k l : ℕ) → right n side k l ≡ true → (k ≡ 512) × (l ≡ 512) × (n ≤ 9)
right-shows n side k l e =
    let (tests, _) = and_both _ _ e in
    let (lengths, tapped) = and_both _ _ tests in
    let (one, zero) = and_both _ _ lengths in
    (eqb-true k 512 one, eqb-true l 512 zero, ((taps_range n).0 tapped).1)

-- the tests, with what says that the number of taps is right under another name
taps-same : (side k l : ℕ) {t t' r : Bool} → t ≡ t' → (eqb k 512 && eqb l 512 && t && leb side 1) ≡ r → (eqb k 512 && eqb l 512 && t' && leb side 1) ≡ r
taps-same side k l e h = sym (ap (λ x. eqb k 512 && eqb l 512 && x && leb side 1) e) ∙ h

pub returns-then-one-zero : goal.returns-then-one-zero
returns-then-one-zero c =
    let a = c.args in
    let e : right a.n a.side a.one a.zero ≡ true = taps-same a.side a.one a.zero c.valid_taps.ensures c.if-one-zero.true in
    let (one, zero, few) = right-shows a.n a.side a.one a.zero e in
    let all = c.size.ensures.0 (omega arith) in
    (all ∙ sym (ap (λ b. length_if b a.n) e), omega (arith, all, pow_mono few), omega (arith, all, pow_mono few))

pub returns : goal.returns
returns c =
    let a = c.args in
    let e : right a.n a.side a.one a.zero ≡ false = taps-same a.side a.one a.zero c.valid_taps.ensures c.if-one-zero.false in
    (sym (ap (λ b. length_if b a.n) e), omega arith, omega arith)
