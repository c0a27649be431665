-- Each return is what the laws of ReadAnswers say of the tests that lead to it: the buffers begin as bytes that are all 0.
use Rattle.std.proofs.lemmas.Result.{err_from_is_err_and}
use Rattle.filter_file.proofs.Marked.{zeros}
use Rattle.filter_file.proofs.ReadAnswers.{read_broken, read_faulty, read_surplus, read_whole}
use Rattle.filter_file.proofs.read.read.Goals as goal

pub returns-in_err-read_checks : goal.returns-in_err-read_checks
returns-in_err-read_checks c =
    let (_, is, same) = err_from_is_err_and c.from_residual.result c.from_residual.ensures.1 in
    rw (is, same) (read_broken _ _ _ c.in_err-read_checks.ensures)

pub returns-in_err-last : goal.returns-in_err-last
unfolding zeros
returns-in_err-last c =
    let (_, is, same) = err_from_is_err_and c.from_residual-in_err-last.result c.from_residual-in_err-last.ensures.1 in
    rw (is, same) (read_faulty _ _ _ c.in_ok-read_checks.ensures c.in_err-last.ensures)

pub returns-then-last-file : goal.returns-then-last-file
unfolding zeros
returns-then-last-file c = read_surplus _ _ _ c.in_ok-read_checks.ensures c.in_ok-last.ensures c.if-last-file.true

pub returns : goal.returns
unfolding zeros
returns c =
    rw (c.copy_from_slice.ensures.after, c.copy_from_slice-2.ensures.after)
    (read_whole _ c.args.set.now c.args.table.now c.in_ok-read_checks.ensures c.in_ok-last.ensures c.if-last-file.false)
