-- Nothing is written where k is 0 (appends_none); else the sums of side 0 stand behind those of side 1 (appends_then, sums-both), each within its room.
use mathlib.Core.Path.{◌≡◌, refl, sym, ap}
use mathlib.Core.List.{List, ◌++◌}
use Rattle.std.specs.Prelude.{Some}
use Prim.Native.Nat.{ℕ, zero, suc, ◌-◌}
use native.Mathlib.Omega.{arith}
use Rattle.buffer.proofs.Appending.{appends_none, appends_then, appends_same}
use Rattle.sheet_text.specs.Sheet.{side_sums, sums}
use Rattle.sheet_text.proofs.sheet.sum_sections.Goals as goal

-- the sums of a degree that is not 0
sums-both : (n : ℕ) (s f : List ℕ) (k : ℕ) → ¬ (k ≡ 0) → side_sums n s f (k - 1) 1 ++ side_sums n s f (k - 1) 0 ≡ sums n s f (Some k)
sums-both n s f zero h = absurd (h refl)
sums-both n s f (suc d) h = let e : suc d - 1 ≡ d = omega arith in ap (λ j. side_sums n s f j 1 ++ side_sums n s f j 0) e

pub returns-then-k-eq0 : goal.returns-then-k-eq0
returns-then-k-eq0 c =
    let a = c.args in
    (appends_same (ap (λ k. sums a.n a.set.now a.table.now (Some k)) (sym c.if-k-eq0.true)) (appends_none a.text.now a.at), omega arith)

pub side_sums-of_zero-requires : goal.side_sums-of_zero-requires
side_sums-of_zero-requires c =
    (omega (arith, c.requires.0), c.requires.1 (c.args.k - 1) _ (omega arith) (omega arith))

pub side_sums-requires : goal.side_sums-requires
side_sums-requires c =
    (omega (arith, c.requires.0, c.side_sums-of_zero.ensures.1, c.side_sums-of_zero.auto.text), c.requires.1 (c.args.k - 1) _ (omega arith) (omega arith))

pub returns : goal.returns
returns c =
    let a = c.args in
    (appends_same (sums-both a.n a.set.now a.table.now a.k c.if-k-eq0.false) (appends_then (omega arith) c.side_sums-of_zero.ensures.0 c.side_sums.ensures.0), omega arith)
