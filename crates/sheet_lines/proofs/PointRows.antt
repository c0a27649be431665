-- The rows of a certificate, eight numbers each.
--   row_bit       bit q of the row of the point a
--   row_names     the points that the row of the point a names are those that the certificate names for it
use Rattle.std.proofs.Common.{◌≡◌, ◌∙◌, ap, arith, ℕ, ◌+◌, ◌*◌, ◌/◌, ◌%◌, ◌^◌, ◌<◌, ◌≤◌, List, [], length, get_or}
use Rattle.std.specs.Simd.{first_chunks}
use Rattle.cube.specs.NumberLists.{below, select}
use Rattle.cube.proofs.MaskOf.{select_same}
use Rattle.cube.proofs.Masks.{member_from}
use Rattle.gf2.specs.Vector.{entry}
use Rattle.packed.specs.Packed.{odd, unpack, words}
use Rattle.packed.proofs.Words.{entry_word}
use Rattle.packed.proofs.Rows.{get_or_words, length_words, chunk_words}
use Rattle.immunity.specs.Certificate.{bit_of}

-- bit q of the row of the point a
row_bit : (c : List ℕ) (k a q : ℕ) → a < k → a * 8 + 8 ≤ length c → q < 512 → entry (unpack (get_or (first_chunks 8 k c) a [])) q ≡ bit_of c a q
unfolding bit_of
row_bit c k a q l long m =
    let low : q / 64 < 8 = omega arith in
    let place : a * 8 + q / 64 ≡ 8 * a + q / 64 = omega arith in
    rw (chunk_words k c a l) (entry_word (words c a) q (length_words c a long) ∙ ap (λ x. odd (x / 2 ^ (q % 64))) (get_or_words c a (q / 64) low ∙ ap (λ i. get_or c i 0) place))

-- the points that a row names
pub row_names : (c : List ℕ) {rows : List (List ℕ)} (a : ℕ) → rows ≡ first_chunks 8 (length c / 8) c → a < length c / 8
    → select (entry (unpack (get_or rows a []))) (below 512) ≡ select (bit_of c a) (below 512)
row_names c a e l = rw e (select_same _ _ (below 512) (λ q m. row_bit c (length c / 8) a q l (omega arith) (((member_from 0 512 q).0 m).1)))
