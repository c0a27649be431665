-- What obeys the rules of a filter file is a filter, and back.
--   size_small     N is at most 512
--   valid_filter   the masks of its lists are a filter
--   valid_again    and what their file says is it again
--   filter_valid   what the file of a filter says obeys the rules
use mathlib.Core.Path.{◌≡◌}
use mathlib.Core.List.{List}
use Prim.Native.Nat.{ℕ, ◌≤◌}
use native.Mathlib.Omega.{arith}
use lib.Pow.{pow_mono}
use Rattle.cube.specs.NumberLists.{lists}
use Rattle.cube.specs.Cube.{size}
use Rattle.cube.specs.Mask.{mask}
use Rattle.cube.proofs.Taps.{taps_range}
use Rattle.cube.proofs.MaskOf.{length_mask}
use Rattle.filter.specs.Filter.{Filter}
use Rattle.point_list.proofs.ListMasks.{points_listed, listed_formed, points_rise}
use Rattle.filter_file.specs.File.{Contents, Valid}
use Rattle.filter_file.specs.Write.{contents_of}

-- N is at most 512
pub size_small : {c : Contents} → Valid c → size c.n ≤ 512
size_small {c} v = omega (arith, pow_mono ((taps_range c.n).0 v.tapped).1)

-- the masks of the lists are a filter
pub valid_filter : {c : Contents} → Valid c → Filter c.n (mask (lists c.set)) (mask (lists c.table))
valid_filter {c} v = record {
  set_long = length_mask (lists c.set);
  table_long = length_mask (lists c.table);
  tapped = v.tapped;
  set_formed = listed_formed c.n c.set v.set;
  table_formed = listed_formed c.n c.table v.table;
}

-- what their file says is it again
pub valid_again : {c : Contents} → Valid c → contents_of c.n (mask (lists c.set)) (mask (lists c.table)) ≡ c
valid_again {c} v = rw (points_listed (size c.n) c.set (size_small v) v.set, points_listed (size c.n) c.table (size_small v) v.table)

-- what the file of a filter says obeys the rules
pub filter_valid : {n : ℕ} {s f : List ℕ} → Filter n s f → Valid (contents_of n s f)
filter_valid {n} {s} {f} h = record {
  tapped = h.tapped;
  set = points_rise n s h.set_formed;
  table = points_rise n f h.table_formed;
}
