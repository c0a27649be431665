use Rattle.std.proofs.Common.{rules, take, ◌∙◌, ◌+◌}
use Rattle.std.proofs.lemmas.Iterator.{YieldsList-from_slice}
use Rattle.std.proofs.lemmas.Iterator.Search.{position_from_yields_List}
use Rattle.immunity.specs.Ranks.{no_ranks, part_differs}
use Rattle.degree_ranks.proofs.Degrees.{place_found}
use Rattle.degree_ranks.proofs.side_degree.Goals as goal

pub returns : goal.returns
returns c =
    position_from_yields_List (λ r. part_differs r c.args.side) _ _ _ c.position.ensures.ran (YieldsList-from_slice (take (c.args.n + 1) c.args.ranks) (search rules)) (λ x b q k. search rules)
    ∙ place_found (λ r. part_differs r c.args.side) no_ranks c.args.ranks c.args.n (search rules)
