use Prim.Native.Nat.{ℕ, ◌-◌, ◌*◌, ◌%◌, ◌^◌}
use borrow.Author.Rules.{rules}
use lib.ListN.{get_or}
use Rattle.packed.proofs.Cuts.{columns_cut}
use Rattle.packed.proofs.Made.{made}
use Rattle.packed.proofs.row.cut.Goals as goal

pub returns : goal.returns
returns c =
    let x = c.args.row.now in
    columns_cut 8 c.args.columns (λ k. get_or x k 0) (λ k. get_or c.from_fn.result k 0)
    (made (λ (k : ℕ). get_or x k 0 % 2 ^ (c.args.columns - k * 64)) (λ k r q d. search rules) c.from_fn.result c.from_fn.ensures.items)
