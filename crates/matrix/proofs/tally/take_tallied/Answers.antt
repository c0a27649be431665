-- The row is copied whole (cut_all) behind the kept rows, whose pivots stay (pivots_set); takes_all joins copy, tallied reduction and keep.
use mathlib.Core.Path.{◌≡◌, ap, ◌∙◌}
use Prim.Native.Nat.{◌+◌}
use native.Mathlib.Nat.{le_refl}
use native.Mathlib.Omega.{arith}
use lib.ListN.{length, set, length-map}
use Rattle.gf2.specs.Cut.{cut}
use Rattle.gf2.specs.Steps.{row_of, Pivots}
use Rattle.gf2.proofs.Steps.{pivots_set}
use Rattle.gf2.proofs.Prefix.{cut_all}
use Rattle.packed.specs.Packed.{unpack, unpacked}
use Rattle.packed.proofs.Rows.{length_row}
use Rattle.matrix.proofs.Tallied.{takes_all}
use Rattle.matrix.proofs.tally.take_tallied.Goals as goal
use Rattle.matrix.proofs.tally.take_tallied.Goals.{After-copy_columns}

-- the pivots after the row was copied
copied : (c : After-copy_columns) → Pivots c.args.pivots.now (unpacked c.copy_columns.new.ws) c.args.kept
copied c =
    pivots_set c.args.pivots.now (unpacked c.args.ws.now) c.args.kept c.args.kept _ (unpacked c.copy_columns.new.ws) c.copy_columns.ensures (le_refl _) c.requires.2

pub reduce_tallied-requires : goal.reduce_tallied-requires
reduce_tallied-requires c =
    (omega arith, omega arith, omega arith, copied (goal.at.reduce_tallied-requires c).After-copy_columns, c.requires.3)

pub keep-requires : goal.keep-requires
keep-requires c =
    let k = c.args.kept in (
      c.requires.0,
      pivots_set c.args.pivots.now (unpacked c.copy_columns.new.ws) k k _ (unpacked c.reduce_tallied.new.ws) c.reduce_tallied.ensures.rows (le_refl _) (copied (goal.at.keep-requires c).After-copy_columns),
    )

pub returns : goal.returns
returns c =
    let ws = c.args.ws.now in
    let t = unpacked ws in
    let t₁ = unpacked c.copy_columns.new.ws in
    let t₂ = unpacked c.reduce_tallied.new.ws in
    let k = c.args.kept in
    let v = row_of t (512 + c.args.a.0) in
    let rows : length t ≡ 1024 = length-map ws unpack ∙ c.told-ws in
    let wide : length v ≡ 512 = length_row ws (512 + c.args.a.0) (omega arith) in
    let copies : t₁ ≡ set t k v = c.copy_columns.ensures ∙ ap (λ j. set t k (cut 512 (row_of t j))) c.row_of.ensures ∙ ap (set t k) (cut_all 512 v (omega arith)) in
    record {
      takes_all = takes_all t t₁ t₂ k c.keep.result v c.args.tally.now c.reduce_tallied.new.tally (omega arith) c.requires.0 (length_row ws) wide copies c.reduce_tallied.ensures
          c.keep.ensures.value.0 c.keep.ensures.value.1;
      pivots = c.keep.ensures.pivots;
    }
