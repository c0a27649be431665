use mathlib.Core.Path.{◌≡◌, ap, ◌∙◌}
use mathlib.Core.List.{List, ◌++◌, append_assoc}
use Prim.Native.Nat.{ℕ, ◌≤◌}
use native.Mathlib.Omega.{arith}
use lib.ListN.{length}
use Rattle.buffer.proofs.Appending.{appends_then, appends_same}
use Rattle.cube.specs.NumberLists.{select}
use Rattle.cube.specs.Mask.{member}
use Rattle.order.specs.BuiltIn.{graded}
use Rattle.text.specs.Text.{ascii, labelled, fields}
use Rattle.sheet_lines.proofs.lines.degree_line.Goals as goal

-- side and witness are one text behind the degree
grouped : (a b c d : List ℕ) → a ++ b ++ c ++ d ≡ a ++ (b ++ c ++ d)
grouped a b c d = ap (λ x. x ++ d) (append_assoc a b c) ∙ append_assoc a (b ++ c) d

pub returns : goal.returns
unfolding ascii
returns c =
    let inside : c.args.at ≤ length c.args.text.now = omega (arith, c.requires) in
    let a = c.args in
    let one = grouped (labelled "degree" a.k) (labelled " side" c.from.result) (ascii " witness") (fields (select (member a.witness.now) graded)) in
    let text = appends_then inside c.append_heading-chosen.ensures.appends c.witness_fields-end.ensures.0 in
    rw (← c.from.ensures) (appends_then inside (appends_same one text) c.end_line.ensures, omega arith)
