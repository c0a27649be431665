use borrow.Author.Rules.{rules}
use borrow.Author.Tests.{tests}
use mathlib.Core.Path.{◌∙◌}
use lib.Dec.{eqb}
use Rattle.std.proofs.lemmas.Iterator.{YieldsList-from_slice}
use Rattle.std.proofs.lemmas.Iterator.Search.{any_from_yields_List}
use Rattle.wiring.proofs.Named.{any_lists}
use Rattle.wiring.proofs.has_tap.Goals as goal

pub returns : goal.returns
returns c =
    let a = c.args in
    any_from_yields_List (λ x. eqb x a.t) _ _ _ c.any.ensures.ran (YieldsList-from_slice a.wiring.now (cc)) (λ x b q k. search (rules, tests)) ∙ any_lists a.wiring.now a.t
