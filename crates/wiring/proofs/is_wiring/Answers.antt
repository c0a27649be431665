use borrow.Author.Rules.{rules}
use borrow.Author.Tests.{tests}
use mathlib.Core.Path.{sym, ◌∙◌}
use native.Mathlib.Omega.{arith}
use Prim.Native.Nat.{◌+◌}
use Rattle.std.proofs.lemmas.Iterator.{YieldsList-from_range}
use Rattle.std.proofs.lemmas.Iterator.Search.{all_from_yields_List}
use borrow.Author.Tests.{ne_eqb}
use Rattle.cube.specs.NumberLists.{lists}
use Rattle.wiring.specs.Wiring.{is_wiring}
use Rattle.wiring.proofs.Named.{wiring_named}
use Rattle.wiring.proofs.is_wiring.Goals as goal

pub returns-then-wiring-n : goal.returns-then-wiring-n
returns-then-wiring-n c =
    let a = c.args in
    all_from_yields_List (λ k. lists a.wiring.now (k + 1)) _ _ _ c.all.ensures.ran (YieldsList-from_range 0 a.n a.n (cc) (omega arith)) (λ x b q k. search (rules, tests))
    ∙ sym (wiring_named a.wiring.now a.n c.if-wiring-n.true)

pub returns-else-wiring-n : goal.returns-else-wiring-n
unfolding is_wiring
returns-else-wiring-n c = rw (ne_eqb _ _ c.if-wiring-n.false)
