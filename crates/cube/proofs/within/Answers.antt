use mathlib.Core.Path.{refl}
use Rattle.cube.specs.Cube.{within}
use Rattle.cube.proofs.within.Goals as goal

pub returns : goal.returns
unfolding within
returns c = refl
