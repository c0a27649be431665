use Rattle.std.proofs.Common.{rules, arith}
use Rattle.packed.proofs.Words.{shifted}
use Rattle.superset_sums.proofs.Steps.{in_words, between_words}
use Rattle.superset_sums.proofs.step.Goals as goal

pub returns-then-k-lt-WORD_TAPS : goal.returns-then-k-lt-WORD_TAPS
returns-then-k-lt-WORD_TAPS c p =
    let k = c.args.k in
    rw (c.step_in_words.ensures, shifted k (omega arith)) (in_words k (omega arith) c.args.row.now (search rules) p)

pub returns-else-k-lt-WORD_TAPS : goal.returns-else-k-lt-WORD_TAPS
returns-else-k-lt-WORD_TAPS c p =
    rw c.step_between_words.ensures (between_words c.args.k (omega arith) c.args.row.now (search rules) p)
