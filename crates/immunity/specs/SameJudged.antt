-- Judgements that say the same of a filter's strength.
--   SameJudged j j'   the judgements j and j' have the same ranks, mark, degree, side and sides' own degrees; additions, witnesses and kept points may differ
use Rattle.std.specs.Prelude.{◌≡◌}
use Rattle.immunity.specs.Judgement.{Judgement}

-- the same ranks of the set and of each part at every degree, mark, degree, side and sides' own degrees
pub record SameJudged (j j' : Judgement) : Type 0 where
  pub ranks : j.ranks ≡ j'.ranks
  pub mark : j.mark ≡ j'.mark
  pub degree : j.degree ≡ j'.degree
  pub side : j.side ≡ j'.side
  pub degrees : j.degrees ≡ j'.degrees
