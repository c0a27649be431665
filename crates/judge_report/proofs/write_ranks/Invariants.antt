-- The first 3 * d numbers are the ranks of the first d degrees.
use Rattle.std.proofs.Common.{◌≡◌, ◌*◌, take}
use Rattle.immunity.specs.Ranks.{flat}
use Rattle.judge_report.proofs.write_ranks.Given as goal

abbrev pub invariant-loop-d : goal.invariant-loop-d
invariant-loop-d l = take (3 * l.d) l.report ≡ flat (take l.d l.fn.ranks)
