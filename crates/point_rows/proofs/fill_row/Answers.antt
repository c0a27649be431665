-- The numbers that are made pack the monomials of the point; unpack_pack reads them again.
use Rattle.std.proofs.Common.{rules, arith, ◌≡◌, ℕ, ◌*◌, ◌<◌, List, length, get_or, set, take, drop, sym, ap, ap₂, ◌∙◌}
use Rattle.std.proofs.lemmas.List.{length-map, map-set, take-map, drop-map, ext_get_or}
use Rattle.cube.specs.Cube.{within}
use Rattle.gf2.specs.Vector.{Row}
use Rattle.packed.specs.Packed.{unpack, unpacked, number, pack}
use Rattle.packed.proofs.Made.{made}
use Rattle.packed.proofs.Packing.{length_pack, pack_at, unpack_pack}
use Rattle.point_rows.specs.Rows.{monomials}
use Rattle.point_rows.proofs.fill_row.Goals as goal

-- eight numbers, each made of 64 columns of the point, hold its row
packed_row : (xs : List ℕ) (a : ℕ) (row : List ℕ) → length xs ≡ 512 → length row ≡ 8
    → ((k : ℕ) → k < 8 → get_or row k 0 ≡ number (monomials (take 64 (drop (k * 64) xs)) a)) → unpack row ≡ monomials xs a
packed_row xs a row long eight made_of =
    let v : Row = monomials xs a in
    let packed : row ≡ pack 8 v = ext_get_or 0 row (pack 8 v) (eight ∙ sym (length_pack 8 v)) (λ k h.
    let l : k < 8 = omega arith in
    made_of k l ∙ sym (pack_at 8 v k l ∙ ap (λ w. number (take 64 w)) (drop-map (λ u. within u a) (k * 64) xs) ∙ ap number (take-map (λ u. within u a) 64 (drop (k * 64) xs)))) in
    ap unpack packed ∙ unpack_pack 8 v (length-map xs (λ u. within u a) ∙ long)

pub returns : goal.returns
returns c =
    let a = c.args in
    let items = c.from_fn.ensures.items in
    let made_of = made (λ k. number (monomials (take 64 (drop (k * 64) a.exponents.now)) a.a.0)) (λ x r q d. search rules) c.from_fn.result items in
    map-set unpack a.ws.now c.row_of.result c.from_fn.result
    ∙ ap₂ (set (unpacked a.ws.now)) c.row_of.ensures (packed_row a.exponents.now a.a.0 c.from_fn.result (search rules) items.long made_of)
