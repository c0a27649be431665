-- The kit's digits are the decimal ones (decimal_fewest), and no more than the room holds (decimal_short); they are appended.
use mathlib.Core.Path.{◌≡◌, ap, ◌∙◌}
use Prim.Native.Nat.{◌≤◌}
use native.Mathlib.Omega.{arith}
use lib.ListN.{length, take}
use Rattle.buffer.proofs.Appending.{appends_same}
use Rattle.text.specs.Room.{digits_room, small_digits_room}
use Rattle.text.specs.Text.{decimal}
use Rattle.text.proofs.Decimals.{decimal_fewest, decimal_short}
use Rattle.text.proofs.append_decimal.Goals as goal
use Rattle.text.proofs.append_decimal.Goals.{After-decimal-k, Start}

-- the bytes that are appended are the digits
written : (c : After-decimal-k) → take c.decimal-k.result c.decimal-k.new.out ≡ decimal c.args.m
written c = c.decimal-k.ensures.digits ∙ decimal_fewest c.decimal-k.result _ c.decimal-k.ensures.len

-- a number of 64 bits has no more digits
few : (c : Start) → length (decimal c.args.m) ≤ digits_room
few c = decimal_short digits_room c.args.m (omega arith) (omega (arith, c.ranges.m))

pub append-requires : goal.append-requires
append-requires c =
    omega (arith, c.requires, ap length (written (goal.at.append-requires c).After-decimal-k), few (goal.at.append-requires c).Start)

pub returns : goal.returns
returns c =
    let m = c.args.m in
    let done = appends_same (written (goal.at.returns c).After-decimal-k) c.append.ensures in
    record {
      appends = done;
      upper_bound = (omega (arith, done.upto, few (goal.at.returns c).Start), λ small. omega (arith, done.upto, decimal_short small_digits_room m (omega arith) small));
    }
