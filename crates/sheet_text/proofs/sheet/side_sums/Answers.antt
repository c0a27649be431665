use mathlib.Core.Path.{subst}
use Prim.Native.Nat.{ℕ, ◌+◌, ◌≤◌}
use lib.ListN.{length-replicate}
use Rattle.sheet_lines.specs.Room.{side_sums_room}
use Rattle.buffer.specs.Appends.{Appends}
use Rattle.cube.specs.Mask.{points}
use Rattle.filter.specs.Part.{part}
use Rattle.filter.specs.Outside.{outside}
use Rattle.sheet_lines.specs.Lines.{sum_lines}
use Rattle.sheet_text.proofs.SheetAccepts.{certified_is}
use Rattle.sheet_text.proofs.sheet.side_sums.Goals as goal

pub returns : goal.returns
returns c =
    let a = c.args in
    subst (λ x. Appends (sum_lines a.side x (outside (points a.set.now) (part a.side a.set.now a.table.now))) a.text.now c.sum_lines.new.text a.at c.sum_lines.result × (c.sum_lines.result ≤ a.at + side_sums_room))
    (certified_is a.n a.set.now a.table.now a.side a.d c.requires.1 (length-replicate {A = ℕ} 8192 0) (length-replicate {A = ℕ} 4096 0) c.certify.ensures)
    c.sum_lines.ensures
