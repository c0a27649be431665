use Rattle.std.proofs.Common.{rules, ℕ, ◌^◌, get_or}
use lib.Bits.{bit_xor}
use Rattle.cube.proofs.Masks.{values_told}
use Rattle.packed.proofs.Made.{made}
use Rattle.superset_sums.specs.SupersetSums.{partner_of}
use Rattle.superset_sums.proofs.step_between_words.Goals as goal

pub returns : goal.returns
returns c =
    let a = c.args in
    let items = c.from_fn.ensures.items in
    let new = λ (i : ℕ). bit_xor (get_or a.row.now i 0) (partner_of a.row.now (2 ^ a.j) i) in
    values_told new 8 0 c.from_fn.result items.long (made new (λ x r q d. search rules) c.from_fn.result items)
