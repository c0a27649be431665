use mathlib.Core.Path.{sym, ap}
use Prim.Native.Nat.{◌%◌, ◌≤◌}
use native.Mathlib.Nat.{mod-eq_of_lt}
use native.Mathlib.Omega.{arith}
use lib.Pow.{pow_mono}
use Rattle.packed.proofs.Words.{shifted}
use Rattle.packed.proofs.row.cut_word.Goals as goal

pub returns-then-columns-lt-WORD_BITS : goal.returns-then-columns-lt-WORD_BITS
returns-then-columns-lt-WORD_BITS c = ap (λ x. c.args.w % x) (shifted c.args.columns (omega arith))

pub returns : goal.returns
returns c =
    let h : 64 ≤ c.args.columns = omega arith in
    sym (mod-eq_of_lt (omega (arith, pow_mono h, c.ranges.w)))
