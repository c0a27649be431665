use borrow.Author.Rules.{rules}
use Rattle.std.proofs.lemmas.List.{places}
use Rattle.certify.proofs.CertificateWords.{word_number}
use Rattle.certify.proofs.sums.copy_row.Goals as goal

pub returns-clause-row_copied : goal.returns-clause-row_copied
returns-clause-row_copied c k few = rw (← word_number c.args.row.now k few (c.fits-row k)) (search (rules, places))
