use mathlib.Core.Path.{◌≡◌, ◌∙◌}
use Prim.Native.Nat.{ℕ}
use Rattle.std.proofs.Common.{rules, tests}
use Rattle.std.proofs.lemmas.Iterator.{YieldsList-from_slice, YieldsList-from_zip}
use Rattle.std.proofs.lemmas.Iterator.Search.{all_from_yields_List}
use Rattle.std.specs.List.{list_all, zip}
use lib.Bits.{bit_and}
use lib.Dec.{eqb}
use Rattle.packed.proofs.ZeroRows.{disjoint_columns}
use Rattle.packed.proofs.row.disjoint.Goals as goal

pub returns : goal.returns
returns c =
    let u = c.args.x.now in
    let v = c.args.y.now in
    let all : c.all.result ≡ list_all (λ p. eqb (bit_and p.0 p.1) 0) (zip u v) =
    all_from_yields_List (λ (p : ℕ × ℕ). eqb (bit_and p.0 p.1) 0) c.all.new.self _ c.all.result c.all.ensures.ran
    (YieldsList-from_zip {s = c.zip.result} (YieldsList-from_slice {s = c.zip.result.a} u cc) (YieldsList-from_slice {s = c.zip.result.b} v cc)) (λ x b q k. search (rules, tests)) in
    all ∙ disjoint_columns 8 u v c.told-x c.told-y c.fits-y
