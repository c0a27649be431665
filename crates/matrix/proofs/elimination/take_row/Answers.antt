-- The row is copied behind the kept rows and reduced there, which leaves their pivots (pivots_set); the law takes joins copy, reduction and keep.
use Prim.Native.Nat.{◌<◌}
use native.Mathlib.Nat.{le_refl}
use native.Mathlib.Omega.{arith}
use lib.ListN.{length, length-map}
use Rattle.packed.specs.Packed.{unpack, unpacked}
use Rattle.gf2.specs.Steps.{Pivots}
use Rattle.gf2.proofs.Steps.{pivots_set}
use Rattle.matrix.proofs.Taking.{takes}
use Rattle.matrix.proofs.elimination.take_row.Goals as goal
use Rattle.matrix.proofs.elimination.take_row.Goals.{After-copy_columns}

-- the pivots after the row was copied
copied : (c : After-copy_columns) →
    Pivots c.args.pivots.now (unpacked c.copy_columns.new.ws) c.args.kept
copied c =
    pivots_set c.args.pivots.now (unpacked c.args.ws.now) c.args.kept c.args.kept _ (unpacked c.copy_columns.new.ws) c.copy_columns.ensures (le_refl _) c.requires.2

pub reduce-additions-requires : goal.reduce-additions-requires
reduce-additions-requires c =
    (omega arith, omega arith, omega arith, copied (goal.at.reduce-additions-requires c).After-copy_columns)

pub keep-requires : goal.keep-requires
keep-requires c =
    let k = c.args.kept in (
      c.requires.0,
      pivots_set c.args.pivots.now (unpacked c.copy_columns.new.ws) k k _ (unpacked c.reduce-additions.new.ws) c.reduce-additions.ensures.0.rows (le_refl _) (copied (goal.at.keep-requires c).After-copy_columns),
    )

pub returns : goal.returns
returns c =
    let t = unpacked c.args.ws.now in
    let l : c.args.kept < length t = omega (arith, length-map c.args.ws.now unpack) in
    record {
      takes = takes t (unpacked c.copy_columns.new.ws) (unpacked c.reduce-additions.new.ws) c.args.kept c.keep.result c.reduce-additions.result _ l c.requires.0
          c.copy_columns.ensures c.reduce-additions.ensures.0 c.keep.ensures.value.0 c.keep.ensures.value.1 c.reduce-additions.ensures.1;
      pivots = c.keep.ensures.pivots;
    }
