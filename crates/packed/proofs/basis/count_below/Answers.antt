use mathlib.Core.Path.{◌≡◌, sym, ◌∙◌}
use Prim.Native.Nat.{ℕ, ◌≤◌}
use Rattle.std.proofs.Common.{rules, tests}
use Rattle.std.proofs.lemmas.Iterator.{YieldsList-from_slice}
use Rattle.std.proofs.lemmas.Iterator.Consumers.{YieldsList-from_filter, YieldsList-at, count_from_yields_List}
use Rattle.std.proofs.lemmas.List.Sums.{length-filter, count_by-le-length}
use Rattle.std.specs.List.{count_by}
use native.Mathlib.Omega.{arith}
use lib.Dec.{ltb}
use lib.ListN.{length, take}
use lib.Seq.{length-take-le}
use Rattle.packed.proofs.Tally.{count_to_is}
use Rattle.packed.proofs.basis.count_below.Goals as goal

pub returns : goal.returns
returns c =
    let ps = take c.args.kept c.args.pivots.now in
    let test = λ (p : ℕ). ltb p c.args.columns in
    let found : c.count.result ≡ count_by test ps =
    count_from_yields_List c.filter.result c.count.result c.count.ensures.ran
    (YieldsList-from_filter _ test (YieldsList-at c.filter.ensures.source (YieldsList-from_slice ps cc)) c.filter.ensures.closure
    (λ x b q k. search (rules, tests)))
    ∙ length-filter test ps in
    let few : count_by test ps ≤ length ps = count_by-le-length test ps in
    (found ∙ sym (count_to_is c.args.columns ps), omega (arith, found, few, length-take-le c.args.kept c.args.pivots.now (omega arith)))
