-- What the calls on the halves ask, and what is left of the whole, is said of lists in HalvesInPlace.antt.
use native.Mathlib.Omega.{arith}
use Rattle.polynomial.proofs.HalvesInPlace.{no_tap, asks_first, asks_second, asks_add, whole_values}
use Rattle.polynomial.proofs.convert.+transform.Goals as goal

pub returns-then-n-eq0 : goal.returns-then-n-eq0
returns-then-n-eq0 t c = no_tap c.args.n c.args.s.now c.if-n-eq0.true c.requires.0 c.requires.1

pub transform-requires : goal.transform-requires
transform-requires t c = (omega arith, asks_first c.args.n c.args.s.now c.if-n-eq0.false c.requires.0 c.requires.1)

pub transform-requires-2 : goal.transform-requires-2
transform-requires-2 t c =
    (omega arith, asks_second c.args.n c.args.s.now c.if-n-eq0.false c.requires.0 c.requires.1 c.transform.new.s c.transform.ensures)

pub add_lower-requires : goal.add_lower-requires
add_lower-requires t c =
    asks_add c.args.n c.args.s.now c.if-n-eq0.false c.requires.0 c.requires.1
    c.transform.new.s c.transform.ensures c.transform-2.new.s c.transform-2.ensures

pub returns : goal.returns
returns t c =
    whole_values c.args.n c.args.s.now c.if-n-eq0.false c.requires.0 c.requires.1
    c.transform.new.s c.transform.ensures c.transform-2.new.s c.transform-2.ensures c.add_lower.new.s c.add_lower.ensures
