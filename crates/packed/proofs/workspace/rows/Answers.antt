-- The chunks of eight of 8,192 numbers are 1,024 rows.
use mathlib.Core.Path.{◌≡◌, ap, ◌∙◌}
use Prim.Native.Nat.{◌/◌}
use native.Mathlib.Omega.{arith}
use lib.ListN.{length}
use Rattle.std.specs.Simd.{first_chunks}
use Rattle.packed.proofs.workspace.rows.Goals as goal

pub returns : goal.returns
returns c =
    let chunks = c.as_chunks_mut-rows.ensures.front in
    let whole = rw c.unwrap.ensures at c.as_mut_array.ensures.cases in
    let same : c.unwrap.result.now ≡ c.as_chunks_mut-rows.result.0.now = whole.same in
    let all : length c.args.workspace.now / 8 ≡ 1024 = omega (arith, c.requires) in
    let rows = same ∙ chunks ∙ ap (λ k. first_chunks 8 k c.args.workspace.now) all in
    record { long = ap length same ∙ c.as_chunks_mut-rows.ensures.front_len ∙ all; rows = rows }
