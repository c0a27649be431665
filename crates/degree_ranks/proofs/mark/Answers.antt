use Rattle.std.proofs.Common.{rules, take, ◌+◌, ◌∙◌, ap, unwrap_or, Bool, get_or}
use Rattle.std.proofs.lemmas.Iterator.{YieldsList-from_slice}
use Rattle.std.proofs.lemmas.Iterator.Search.{position_from_yields_List}
use Rattle.immunity.specs.declared.Ranks.{Ranks}
use Rattle.immunity.specs.Mark.{twice_exceeds}
use Rattle.immunity.specs.Ranks.{no_ranks}
use Rattle.degree_ranks.proofs.Degrees.{place_found}
use Rattle.degree_ranks.proofs.mark.Goals as goal

pub returns : goal.returns
returns c =
    let exceeds : Ranks → Bool = λ r. twice_exceeds r.set (get_or c.args.ranks c.args.n no_ranks).set in
    c.unwrap_or.ensures
    ∙ ap (λ x. unwrap_or x c.args.n) (position_from_yields_List exceeds _ _ c.position.result c.position.ensures.ran (YieldsList-from_slice (take (c.args.n + 1) c.args.ranks) (search rules)) (λ x b q k. search rules)
    ∙ place_found exceeds no_ranks c.args.ranks c.args.n (search rules))
