use mathlib.Core.Path.{ap, ◌∙◌}
use Prim.Native.Nat.{◌/◌, ◌%◌}
use native.Mathlib.Omega.{arith}
use lib.Bits.{bit_xor}
use lib.ListN.{get_or}
use Rattle.packed.specs.Packed.{bits_of}
use Rattle.packed.proofs.Words.{shifted, unpack_changed}
use Rattle.packed.proofs.Parity.{flip_bits, flip_column}
use Rattle.packed.proofs.row.flip_column.Goals as goal

pub returns : goal.returns
returns c =
    let i = c.args.c in
    let w = get_or c.args.row.now (i / 64) 0 in
    unpack_changed flip_column c.args.row.now _ i c.told-row c.requires
    (ap (λ x. bits_of 64 (bit_xor w x)) (shifted (i % 64) (omega arith)) ∙ flip_bits w (i % 64) (omega arith))
