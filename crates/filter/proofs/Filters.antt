-- What the shared checks show.
--   a_filter     lengths, taps and masks that pass show a filter
--   passes       a filter passes what follows the taps
--   few_taps     a filter has at most nine taps
--   set_below    the points of its set are below 512
use mathlib.Core.Path.{◌≡◌}
use mathlib.Core.Bool.{true}
use mathlib.Core.List.{List}
use Prim.Native.Nat.{ℕ, ◌≤◌}
use native.Mathlib.Omega.{arith}
use lib.Dec.{eqb}
use lib.ListN.{length}
use lib.Pow.{pow_mono}
use borrow.Author.Tests.{eqb-true}
use Rattle.refusal.proofs.Verdicts.{All}
use Rattle.cube.specs.NumberLists.{Inside}
use Rattle.cube.specs.Cube.{taps}
use Rattle.cube.specs.Mask.{points}
use Rattle.cube.proofs.Masks.{points_inside}
use Rattle.cube.proofs.Taps.{taps_range}
use Rattle.filter.specs.Filter.{Filter}
use Rattle.filter.specs.Checks.{filter_masks}

module _ (n : ℕ) (s f : List ℕ) where
  -- lengths, taps and masks that pass show a filter
  pub a_filter : eqb (length s) 512 ≡ true → eqb (length f) 512 ≡ true → taps n ≡ true → All (filter_masks n s f) → Filter n s f
  a_filter long-set long-table tapped (set, (table, _)) = record {
    set_long = eqb-true (length s) 512 long-set;
    table_long = eqb-true (length f) 512 long-table;
    tapped = tapped;
    set_formed = set;
    table_formed = table;
  }

  -- a filter passes what follows the taps
  pub passes : Filter n s f → All (filter_masks n s f)
  passes h = (h.set_formed, (h.table_formed, tt))

  -- a filter has at most nine taps
  pub few_taps : Filter n s f → n ≤ 9
  few_taps h = ((taps_range n).0 h.tapped).1

  -- the points of its set are below 512
  pub set_below : Filter n s f → Inside 512 (points s)
  set_below h a m = omega (arith, points_inside n s h.set_formed a m, pow_mono (few_taps h))
