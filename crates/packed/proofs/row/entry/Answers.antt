use mathlib.Core.Path.{sym}
use Rattle.packed.proofs.Words.{entry_word}
use Rattle.packed.proofs.row.entry.Goals as goal

pub returns : goal.returns
returns c = sym (entry_word c.args.row.now c.args.c c.told-row)
