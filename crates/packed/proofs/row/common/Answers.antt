use Prim.Native.Nat.{ℕ}
use borrow.Author.Rules.{rules}
use lib.Bits.{bit_and}
use lib.ListN.{get_or}
use Rattle.packed.proofs.Bitwise.{and_bitwise, columns_joined}
use Rattle.packed.proofs.Made.{made}
use Rattle.packed.proofs.row.common.Goals as goal

pub returns : goal.returns
returns c =
    let x = c.args.x.now in
    let y = c.args.y.now in
    columns_joined and_bitwise 8 (λ k. get_or x k 0) (λ k. get_or y k 0) (λ k. get_or c.from_fn.result k 0)
    (made (λ (k : ℕ). bit_and (get_or x k 0) (get_or y k 0)) (λ k r q d. search rules) c.from_fn.result c.from_fn.ensures.items)
