-- The number of taps falls with each call.
use Rattle.polynomial.proofs.convert.+transform.Given as goal

abbrev pub decreases-transform : goal.decreases-transform
decreases-transform l = l.n
