use mathlib.Core.Path.{sym, ◌∙◌}
use Prim.Native.Nat.{◌^◌}
use Rattle.std.proofs.lemmas.Iterator.{YieldsList-from_slice}
use Rattle.std.proofs.lemmas.Iterator.Consumers.{sum_from_yields_List, fits_from_yields_list}
use native.Mathlib.Omega.{arith}
use lib.ListN.{take}
use Rattle.packed.proofs.Tally.{sum_to_is, sum_few}
use Rattle.packed.proofs.basis.sum_below.Goals as goal

pub sum-requires-clause-fits : goal.sum-requires-clause-fits
sum-requires-clause-fits c =
    let k = c.args.columns in
    let tally = c.args.tally.now in
    fits_from_yields_list c.iter.result (2 ^ 32) (YieldsList-from_slice (take k tally) cc) (omega (arith, sum_to_is k tally, sum_few k 262144 tally c.requires.1))

pub returns : goal.returns
returns c =
    let k = c.args.columns in
    let tally = c.args.tally.now in
    let total = sum_from_yields_List c.iter.result c.sum.result c.sum.ensures.ran (YieldsList-from_slice (take k tally) cc) ∙ sym (sum_to_is k tally) in
    (total, omega (arith, total, sum_few k 262144 tally c.requires.1))
