use mathlib.Core.Path.{ap, ◌∙◌}
use Prim.Native.Nat.{◌/◌, ◌%◌}
use native.Mathlib.Omega.{arith}
use lib.Bits.{bit_or}
use lib.ListN.{get_or}
use Rattle.packed.specs.Packed.{bits_of}
use Rattle.packed.proofs.Words.{shifted, bits_or, unpack_changed, one_column}
use Rattle.packed.proofs.row.set_entry.Goals as goal

pub returns : goal.returns
returns c =
    let i = c.args.c in
    let w = get_or c.args.row.now (i / 64) 0 in
    unpack_changed one_column c.args.row.now _ i c.told-row c.requires
    (ap (λ x. bits_of 64 (bit_or w x)) (shifted (i % 64) (omega arith)) ∙ bits_or 64 w (i % 64) (omega arith))
