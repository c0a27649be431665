use Rattle.std.proofs.Common.{arith}
use Rattle.buffer.proofs.Appending.{appends_then}
use Rattle.text.proofs.append_labelled.Goals as goal

pub returns-clause-appends : goal.returns-clause-appends
returns-clause-appends c = appends_then (omega arith) c.append-number.ensures c.append_field.ensures.appends
