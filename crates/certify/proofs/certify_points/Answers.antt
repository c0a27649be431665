-- The sums over the part's kept points tell whether the ranks are equal (combine_kept): where they differ Certify refuses, else what is written is the certificate.
use borrow.Author.Rules.{rules}
use mathlib.Core.Path.{◌≡◌, refl, sym, ap, ap₂, ◌∙◌, subst}
use mathlib.Core.Bool.{true}
use mathlib.Core.List.{Memᴰ}
use Prim.Native.Nat.{ℕ, ◌≤◌}
use lib.Dec.{eqb}
use lib.ListN.{length, length-map}
use Rattle.cube.specs.NumberLists.{Inside}
use Rattle.cube.specs.Cube.{size}
use Rattle.cube.specs.Mask.{points}
use Rattle.cube.proofs.Masks.{points_inside}
use Rattle.gf2.proofs.Each.{each_member}
use Rattle.packed.specs.Packed.{unpack, unpacked, zeros}
use Rattle.filter.specs.Part.{part}
use Rattle.filter.proofs.Filters.{few_taps}
use Rattle.filter.proofs.AtDegree.{AtDegree}
use Rattle.point_rows.specs.Workspace.{exponents, RowsFrom}
use Rattle.point_rows.proofs.Stored.{filled_rows, stays_rows}
use Rattle.matrix.specs.Matrix.{rank_of}
use Rattle.immunity.specs.Certificate.{certificate}
use Rattle.immunity.proofs.PartPoints.{part_among}
use Rattle.certify.proofs.Compared.{certify_passed, certify_lengths}
use Rattle.certify.proofs.Certifying.{ranks_differ, accepts}
use Rattle.certify.proofs.certify_points.Goals as goal
use Rattle.certify.proofs.certify_points.Goals.{After-combine_kept, After-fill_rows, After-part_mask-part, Start}

-- what the checks show
shown : (c : Start) → let a = c.args in AtDegree a.n a.set.now a.table.now a.side a.d
shown c = let a = c.args in certify_passed a.n a.set.now a.table.now a.side a.d (length a.workspace.now) (length a.certificate.now) c.requires

-- the lengths of the workspace and of the certificate
lengths : (c : Start) → let a = c.args in (length a.workspace.now ≡ 8192) × (length a.certificate.now ≡ 4096)
lengths c = let a = c.args in certify_lengths a.n a.set.now a.table.now a.side a.d (length a.workspace.now) (length a.certificate.now) c.requires

-- at most nine taps
small : (c : Start) → c.args.n ≤ 9
small c = few_taps _ _ _ (shown c).filter

-- the points of the set are points of n taps
inside-set : (c : Start) → Inside (size c.args.n) (points c.args.set.now)
inside-set c = points_inside _ _ (shown c).filter.set_formed

pub unwrap-set-requires : goal.unwrap-set-requires
unwrap-set-requires c = c.as_array.ensures.variant.1 (shown (goal.at.unwrap-set-requires c).Start).filter.set_long

pub unwrap-table-requires : goal.unwrap-table-requires
unwrap-table-requires c = c.as_array-2.ensures.variant.1 (shown (goal.at.unwrap-table-requires c).Start).filter.table_long

pub rows-ws-requires : goal.rows-ws-requires
rows-ws-requires c = (lengths (goal.at.rows-ws-requires c).Start).0

pub fill_rows-requires : goal.fill_rows-requires
fill_rows-requires c = small (goal.at.fill_rows-requires c).Start

-- the arrays are the set and the table that were lent
lent : (q : After-part_mask-part) → let a = q.args in (q.unwrap-set.result.now ≡ a.set.now) × (q.unwrap-table.result.now ≡ a.table.now)
lent q = (search rules, search rules)

-- the points of the part's mask are the part
part-points : (q : After-part_mask-part) → let a = q.args in points q.part_mask-part.result ≡ part a.side a.set.now a.table.now
part-points q = q.part_mask-part.ensures ∙ ap₂ (part q.args.side) (lent q).0 (lent q).1

-- they are points of the set
among : (q : After-part_mask-part) → let a = q.args in (p : ℕ) → Memᴰ p (points q.part_mask-part.result) → Memᴰ p (points a.set.now)
among q p m =
    let a = q.args in
    each_member (λ x. Memᴰ x (points a.set.now)) (part_among a.side a.set.now a.table.now) (subst (Memᴰ p) (part-points q) m)

-- the rows of points are in their places
filled : (f : After-fill_rows) → f.args.n ≤ 9 → let a = f.args in RowsFrom (exponents a.order.now.list a.n) a.n (unpacked f.fill_rows.new.ws) 0
filled f s =
    let a = f.args in
    let ws = f.rows-ws.result.now in
    rw f.fill_rows.ensures (filled_rows (exponents a.order.now.list a.n) a.n s (unpacked ws) (length-map ws unpack ∙ f.rows-ws.ensures.long))

pub part_kept-kept-requires : goal.part_kept-kept-requires
part_kept-kept-requires c =
    let at = goal.at.part_kept-kept-requires c in (
      small at.Start,
      (shown at.Start).low,
      λ p m. inside-set at.Start p (among at.After-part_mask-part p m),
      filled at.After-fill_rows (small at.Start),
    )

pub combine_kept-requires : goal.combine_kept-requires
combine_kept-requires c =
    let a = c.args in
    let at = goal.at.combine_kept-requires c in
    let set = (lent at.After-part_mask-part).0 in (
      small at.Start,
      (shown at.Start).low,
      rw set (inside-set at.Start),
      rw set (among at.After-part_mask-part),
      stays_rows (exponents a.order.now.list a.n) a.n (unpacked c.fill_rows.new.ws) (unpacked c.part_kept-kept.new.ws) c.part_kept-kept.ensures.point_rows_stay (filled at.After-fill_rows (small at.Start)),
      c.part_kept-kept.ensures.marks_kept,
    )

-- the sums tell whether the ranks of the set and of the side's part are equal
compared : (x : After-combine_kept) → let a = x.args in x.unwrap-set.result.now ≡ a.set.now → points x.part_mask-part.result ≡ part a.side a.set.now a.table.now
    → eqb (rank_of a.order.now.list a.n a.d (points a.set.now)) (rank_of a.order.now.list a.n a.d (part a.side a.set.now a.table.now)) ≡ x.combine_kept.result
compared x set parts =
    let a = x.args in
    sym (x.combine_kept.ensures.ranks_equal ∙ ap₂ (λ s ps. eqb (rank_of a.order.now.list a.n a.d (points s)) (rank_of a.order.now.list a.n a.d ps)) set parts)

pub returns-then-not-combine_kept : goal.returns-then-not-combine_kept
unfolding zeros
returns-then-not-combine_kept c =
    let a = c.args in
    let at = goal.at.returns-then-not-combine_kept c in
    let long : length c.fill.new.self ≡ length a.workspace.now = search rules in
    ranks_differ a.order.now.list a.set.now a.table.now a.n a.side a.d a.workspace.now a.certificate.now c.requires
    (c.fill.ensures.after (λ y e. e) ∙ ap zeros (sym c.fill.ensures.len ∙ long))
    (compared at.After-combine_kept (lent at.After-part_mask-part).0 (part-points at.After-part_mask-part) ∙ c.if-not-combine_kept.true) refl

pub unwrap-certificate-requires : goal.unwrap-certificate-requires
unwrap-certificate-requires c = c.as_mut_array.ensures.variant.1 (lengths (goal.at.unwrap-certificate-requires c).Start).1

pub returns : goal.returns
unfolding zeros
returns c =
    let a = c.args in
    let at = goal.at.returns c in
    let same = lent at.After-part_mask-part in
    let equal : c.combine_kept.result ≡ true = c.if-not-combine_kept.false in
    let long : length c.fill-2.new.self ≡ length a.workspace.now = search rules in
    accepts a.order.now.list a.set.now a.table.now a.n a.side a.d a.workspace.now a.certificate.now c.requires
    (c.fill-2.ensures.after (λ y e. e) ∙ ap zeros (sym c.fill-2.ensures.len ∙ long))
    (compared at.After-combine_kept same.0 (part-points at.After-part_mask-part) ∙ equal)
    (c.write_certificate.ensures ∙ c.combine_kept.ensures.certificate_written equal c.unwrap-table.result.now a.side c.part_mask-part.ensures
    ∙ ap₂ (λ s f. certificate a.order.now.list a.n s f a.side a.d) same.0 same.1)
