use mathlib.Core.Path.{ap₂, ◌∙◌}
use Rattle.gf2.specs.Steps.{reduced_both}
use Rattle.matrix.specs.Combination.{followed}
use Rattle.certify.proofs.sums.combine_point.Goals as goal

pub returns-clause-ws_after : goal.returns-clause-ws_after
unfolding followed
returns-clause-ws_after c =
    let a = c.args in
    c.reduce_both.ensures ∙ ap₂ (λ j t. reduced_both a.kept a.kept j a.places.now t) c.row_of.ensures c.move_row.ensures
