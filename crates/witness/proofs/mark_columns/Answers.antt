use mathlib.Core.Path.{◌≡◌, refl, sym, ap, ap₂, ◌∙◌}
use mathlib.Core.Bool.{Bool, true, false, ◌&&◌}
use mathlib.Core.List.{List, [], ◌∷◌}
use Prim.Native.Nat.{ℕ, ◌+◌, ◌<◌, ◌≤◌}
use native.Mathlib.Numerals.{add-one}
use native.Mathlib.Omega.{arith}
use lib.Dec.{leb, ltb}
use lib.ListN.{length, get_or, drop, set, drop_of_length-le}
use lib.Seq.{drop-cons}
use Rattle.cube.specs.NumberLists.{cons_if, select}
use Rattle.cube.specs.Cube.{weight}
use Rattle.cube.specs.Mask.{with_ones}
use Rattle.order.specs.Order.{Graded, is_column}
use Rattle.gf2.specs.Vector.{Row, entry, chosen}
use Rattle.packed.specs.Packed.{unpack}
use Rattle.packed.proofs.Words.{length_unpack}
use Rattle.order.proofs.ColumnCount.{later_columns, columns_later}
use Rattle.witness.proofs.mark_columns.Invariants.{marked}
use Rattle.witness.proofs.mark_columns.Goals as goal
use Rattle.witness.proofs.mark_columns.Goals.{else-entry, then-entry, else-is_column, then-is_column}

-- of nothing nothing is chosen
chosen_nil : (v : Row) → chosen {A = ℕ} v [] ≡ []
unfolding chosen
chosen_nil [] = refl
chosen_nil (b ∷ v) = refl

module _ {o : List ℕ} (g : Graded o) (n d : ℕ) (v : Row) (count i : ℕ) (b : List ℕ) (l : i < 512) where
  -- the exponent at place i
  abbrev here : ℕ
  here = get_or o i 0

  -- it is a column
  column : is_column n d here ≡ true → count < length v → (z : Bool) → z ≡ entry v count
      → marked o n d v count i b ≡ with_ones (chosen (z ∷ drop (count + 1) v) (here ∷ later_columns o n d (i + 1))) b
  unfolding cons_if
  column e h z q =
      ap₂ (λ w cs. with_ones (chosen w cs) b) (drop-cons v count false h ∙ rw (add-one, q)) (columns_later g n d i l ∙ ap (λ y. cons_if y here (later_columns o n d (i + 1))) e)

  -- it is one, and is marked
  one : is_column n d here ≡ true → count < length v → true ≡ entry v count → marked o n d v count i b ≡ marked o n d v (count + 1) (i + 1) (set b here 1)
  unfolding chosen with_ones
  one e h q = column e h true q

  -- it is one, and is not marked
  other : is_column n d here ≡ true → count < length v → false ≡ entry v count → marked o n d v count i b ≡ marked o n d v (count + 1) (i + 1) b
  unfolding chosen
  other e h q = column e h false q

  -- it is none
  none : is_column n d here ≡ false → marked o n d v count i b ≡ marked o n d v count (i + 1) b
  unfolding cons_if
  none e = ap (λ cs. with_ones (chosen (drop count v) cs) b) (columns_later g n d i l ∙ ap (λ y. cons_if y here (later_columns o n d (i + 1))) e)

-- at the end none is left
marked_end : {o : List ℕ} → Graded o → (n d : ℕ) (v : Row) (count i : ℕ) (b : List ℕ) → 512 ≤ i → marked o n d v count i b ≡ b
unfolding select with_ones
marked_end {o} g n d v count i b h = rw (drop_of_length-le o {i = i} (omega (arith, g.long)), chosen_nil)

pub loop-i-init : goal.loop-i-init
loop-i-init c = record { few = omega arith; same = refl }

pub loop-i-preserved : goal.loop-i-preserved
loop-i-preserved c =
    let o = c.args.order.now.list in
    let g = c.args.order.now.graded in
    let n = c.args.n in
    let d = c.args.d in
    let v = unpack c.args.x.now in
    let i = c.loop-i.i in
    let l = c.loop-i.invariant in
    let x = get_or o i 0 in
    let u : c.exponent_at-u.result.0 ≡ x = c.exponent_at-u.ensures in
    let long : length v ≡ 512 = length_unpack c.args.x.now in
    let column : c.is_column.result ≡ is_column n d x = c.is_column.ensures
    ∙ ap₂ (λ m y. ltb y m && leb (weight y) d) (c.size-points.ensures.0 (omega arith)) u in
    elim c.if-is_column.branch [
      | then-is_column w ↦ let e : is_column n d x ≡ true = sym column ∙ w.if-is_column.true in
          elim w.if-entry.branch [
            | then-entry z ↦
                let stored = w.bytes-is ∙ z.bytes-is ∙ ap (λ y. set c.loop-i.bytes y 1) u in record {
                  few = omega (arith, w.column-is, l.few);
                  same = l.same ∙ one g n d v c.loop-i.column i c.loop-i.bytes (omega arith) e (omega (arith, l.few)) (sym z.if-entry.true ∙ w.entry.ensures)
                      ∙ sym (ap₂ (λ m b. marked o n d v m (i + 1) b) w.column-is stored);
                }
            | else-entry z ↦ record {
              few = omega (arith, w.column-is, l.few);
              same = l.same ∙ other g n d v c.loop-i.column i c.loop-i.bytes (omega arith) e (omega (arith, l.few)) (sym z.if-entry.false ∙ w.entry.ensures)
                  ∙ sym (ap₂ (λ m b. marked o n d v m (i + 1) b) w.column-is (w.bytes-is ∙ z.bytes-is));
            }
          ]
      | else-is_column w ↦ record {
        few = omega (arith, w.column-is, l.few);
        same = l.same ∙ none g n d v c.loop-i.column i c.loop-i.bytes (omega arith) (sym column ∙ w.if-is_column.false)
            ∙ sym (ap₂ (λ m b. marked o n d v m (i + 1) b) w.column-is w.bytes-is);
      }
    ]

pub returns : goal.returns
returns c =
    sym (c.loop-i.invariant.same ∙ marked_end c.args.order.now.graded c.args.n c.args.d (unpack c.args.x.now) c.loop-i.column c.loop-i.i c.loop-i.bytes (omega arith))
