-- The row is put behind the kept rows, and a unit row in the point's place (start_unit); reducing both is `followed`, and the kept rows stay.
use mathlib.Core.Path.{◌≡◌, sym, ap, ap₂, ◌∙◌, subst}
use mathlib.Core.Bool.{true}
use Prim.Native.Nat.{◌+◌}
use native.Mathlib.Nat.{le_refl}
use native.Mathlib.Omega.{arith}
use lib.ListN.{length, set, take, length-set, length-map}
use lib.Seq.{map-set}
use Rattle.gf2.specs.Vector.{Row, unit}
use Rattle.gf2.specs.Cut.{padded}
use Rattle.gf2.specs.Steps.{row_of, Places, reduced_both}
use Rattle.gf2.proofs.Steps.{pivots_same}
use Rattle.packed.specs.Packed.{unpack, unpacked}
use Rattle.packed.proofs.Rows.{row_at}
use Rattle.point_rows.specs.Workspace.{stored}
use Rattle.matrix.specs.Combination.{followed}
use Rattle.matrix.proofs.Following.{start_kept, start_unit, followed_front}
use Rattle.matrix.proofs.combination.take_combining.Goals as goal
use Rattle.matrix.proofs.combination.take_combining.Goals.{After-reduce_both, After-set_entry}

-- the rows before they are reduced
started : (c : After-set_entry) → let s = c.args in let t = unpacked s.ws.now in
    unpacked (set c.move_row.new.ws c.row_of-place.result c.set_entry.new.row) ≡ set (set t s.kept (stored t s.columns s.q.0)) (512 + s.q.0) (padded 512 (unit s.q.0))
started c =
    let t = unpacked c.args.ws.now in
    let q = c.args.q.0 in
    let v = stored t c.args.columns q in
    let ws₁ = c.move_row.new.ws in
    let place = c.row_of-place.result in
    let long : length (set t c.args.kept v) ≡ 1024 = simp (length-set, length-map) c.told-ws in
    start_unit (set t c.args.kept v) q (unpacked ws₁) _ long c.requires.1 c.move_row.ensures
    (map-set unpack ws₁ place c.set_entry.new.row
    ∙ ap (set (unpacked ws₁) place) (c.set_entry.ensures ∙ ap (λ (w : Row). set w q true) (sym (row_at ws₁ place (omega arith))))
    ∙ ap (λ j. set (unpacked ws₁) j (set (row_of (unpacked ws₁) j) q true)) c.row_of-place.ensures)

pub reduce_both-requires : goal.reduce_both-requires
reduce_both-requires c =
    let t = unpacked c.args.ws.now in
    let k = c.args.kept in (
      le_refl _,
      c.requires.0,
      omega arith,
      omega arith,
      pivots_same c.args.pivots.now t k _ (ap (take k) (started (goal.at.reduce_both-requires c).After-set_entry) ∙ start_kept t k c.args.q.0 _ _ c.requires.0) c.requires.2,
      subst (Places c.args.places.now k) (sym c.row_of-place.ensures) c.requires.3,
    )

-- the rows then
reduced : (c : After-reduce_both) → (let s = c.args in let t = unpacked s.ws.now in
    unpacked (set c.move_row.new.ws c.row_of-place.result c.set_entry.new.row) ≡ set (set t s.kept (stored t s.columns s.q.0)) (512 + s.q.0) (padded 512 (unit s.q.0))) →
    let s = c.args in let q = s.q.0 in unpacked c.reduce_both.new.ws ≡ followed s.columns s.kept q (padded 512 (unit q)) s.places.now (unpacked s.ws.now)
unfolding followed
reduced c started =
    let s = c.args in
    c.reduce_both.ensures ∙ ap₂ (λ j t. reduced_both s.kept s.kept j s.places.now t) c.row_of-place.ensures started

pub keep-requires : goal.keep-requires
keep-requires c =
    let t = unpacked c.args.ws.now in
    let k = c.args.kept in
    let q = c.args.q.0 in
    let same : take k (unpacked c.reduce_both.new.ws) ≡ take k t =
    ap (take k) (reduced (goal.at.keep-requires c).After-reduce_both (started (goal.at.keep-requires c).After-set_entry)) ∙ followed_front c.args.columns k q (padded 512 (unit q)) c.args.places.now t (length-map c.args.ws.now unpack ∙ c.told-ws) c.requires.0 c.requires.1 in (
      c.requires.0,
      pivots_same c.args.pivots.now t k (unpacked c.reduce_both.new.ws) same c.requires.2,
    )

pub returns : goal.returns
returns c =
    let s = c.args in
    record {
      row_followed = reduced (goal.at.returns c).After-reduce_both (started (goal.at.returns c).After-set_entry);
      place_taken = ap (set s.places.now s.kept) c.row_of-place.ensures;
      number_kept = c.keep.ensures.value;
      pivots = c.keep.ensures.pivots;
    }
