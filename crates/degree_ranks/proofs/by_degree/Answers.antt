-- The array has the ranks of each of the ten degrees.
use Rattle.std.proofs.Common.{rules, ◌≡◌, ℕ, List, map, get_or, length, sym, ◌∙◌, ◌<◌, arith}
use Rattle.std.proofs.lemmas.List.{ext_get_or}
use lib.ListN.{length-map}
use Rattle.cube.specs.NumberLists.{up_from, below}
use Rattle.cube.proofs.Masks.{length_from, value_at, member_from}
use Rattle.gf2.specs.Vector.{Each}
use Rattle.gf2.proofs.Each.{each_member}
use Rattle.immunity.specs.declared.Ranks.{Ranks}
use Rattle.immunity.specs.Ranks.{no_ranks, ranks_in}
use Rattle.filter.specs.Sides.{pair}
use Rattle.degree_ranks.proofs.by_degree.Goals as goal

-- ten ranks, each that of its degree
ranks_each : (f : ℕ → Ranks) (xs : List Ranks) → length xs ≡ 10 → Each (λ d. get_or xs d no_ranks ≡ f d) (below 10) → xs ≡ map f (below 10)
ranks_each f xs long each = ext_get_or no_ranks xs (map f (below 10)) (long ∙ sym (length-map (below 10) f ∙ length_from 0 10)) (λ d l.
    let q : d < 10 = omega (arith, long) in
    each_member (λ d. get_or xs d no_ranks ≡ f d) each ((member_from 0 10 d).1 (omega arith, omega arith)) ∙ sym (value_at f 10 d no_ranks q))

pub returns : goal.returns
unfolding up_from
returns c = ranks_each (ranks_in c.args.set (pair c.args.one c.args.zero)) c.from_fn.result (search rules) (search rules)
