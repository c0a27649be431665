-- The loop's invariant: the first i bytes of the upper half are sums (lower_turn); at the end all are (lower_end).
use mathlib.Core.Path.{refl}
use native.Mathlib.Omega.{arith}
use lib.ListN.{length-set}
use Rattle.polynomial.proofs.Lower.{lower_start, lower_turn, lower_end}
use Rattle.polynomial.proofs.convert.add_lower.Goals as goal

pub loop-i-init : goal.loop-i-init
loop-i-init c = (refl, lower_start c.args.h c.args.s.now)

pub loop-i-preserved : goal.loop-i-preserved
loop-i-preserved c =
    (simp length-set c.loop-i.invariant.0, lower_turn c.args.h c.args.s.now c.requires c.loop-i.i c.loop-i.s (omega arith) c.loop-i.invariant.1)

pub returns : goal.returns
returns c =
    lower_end c.args.h c.args.s.now c.requires c.loop-i.i c.loop-i.s (omega arith) (omega arith) c.loop-i.invariant.1
