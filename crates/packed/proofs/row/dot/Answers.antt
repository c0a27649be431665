use mathlib.Core.Path.{◌≡◌, ap, ◌∙◌}
use Prim.Native.Nat.{ℕ, ◌^◌}
use Rattle.std.proofs.Common.{rules, tests}
use Rattle.std.proofs.iter.Yields.{fronts}
use Rattle.std.proofs.lemmas.Iterator.{YieldsList, zips, YieldsList-from_slice, YieldsList-from_zip, YieldsList-from_map}
use Rattle.std.proofs.lemmas.Iterator.Adapters.{fits_from_length, at_most_from_yields_List}
use Rattle.std.proofs.lemmas.Iterator.Consumers.{sum_by_from_yields_List, YieldsList-at}
use Rattle.std.proofs.lemmas.Slice.Zip.{length-zip}
use Rattle.std.specs.List.{sum_by, zip}
use lib.Bits.{bit_and}
use lib.Count.{ones}
use native.Mathlib.Omega.{arith}
use Rattle.packed.specs.Packed.{odd}
use Rattle.packed.proofs.Parity.{dot_columns}
use Rattle.packed.proofs.row.dot.Goals as goal
use Rattle.packed.proofs.row.dot.Goals.{After-map}

-- the numbers of the two rows in pairs
pairs : (c : After-map) → YieldsList (zips fronts fronts) (λ p. (p.0.now, p.1.now)) c.map.result.iter (zip c.args.x.now c.args.y.now)
pairs c =
    YieldsList-at c.map.ensures.source
    (YieldsList-from_zip {s = c.zip.result} (YieldsList-from_slice {s = c.zip.result.a} c.args.x.now cc) (YieldsList-from_slice {s = c.zip.result.b} c.args.y.now cc))

pub sum-count-requires-clause-fits : goal.sum-count-requires-clause-fits
sum-count-requires-clause-fits c =
    fits_from_length _ _ 8 (2 ^ 32) (at_most_from_yields_List (pairs c) (omega (arith, length-zip c.args.x.now c.args.y.now)))
    c.map.ensures.closure (omega arith) (λ p r q k. search (rules, tests))

pub returns : goal.returns
returns c =
    let both = λ (p : ℕ × ℕ). ones (bit_and p.0 p.1) in
    let count : c.sum-count.result ≡ sum_by both (zip c.args.x.now c.args.y.now) =
    sum_by_from_yields_List both (zip c.args.x.now c.args.y.now) c.map.result c.sum-count.result c.sum-count.ensures.ran
    (YieldsList-from_map _ both (pairs (goal.at.returns c).After-map) c.map.ensures.closure (λ p r q k. search (rules, tests))) in
    ap odd count ∙ dot_columns 8 c.args.x.now c.args.y.now c.told-x c.told-y c.fits-y
