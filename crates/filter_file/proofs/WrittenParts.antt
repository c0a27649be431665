-- The parts of a file, written one behind the other.
--   file_fits   n and both lists take at most 2,053 bytes
--   file_made   n, the list of the set and that of the table, written from the front of a buffer, are the file
use mathlib.Core.Path.{◌≡◌, ap, ◌∙◌}
use mathlib.Core.List.{List, ◌++◌, append_assoc}
use Prim.Native.Nat.{ℕ, ◌+◌, ◌≤◌}
use native.Mathlib.Omega.{arith}
use lib.ListN.{length, take, drop, length-append}
use lib.Seq.{take_at}
use Rattle.cube.specs.Mask.{points}
use Rattle.buffer.specs.Appends.{Appends}
use Rattle.buffer.proofs.Appending.{appends_then}
use Rattle.varint.specs.Varint.{encode_varint}
use Rattle.filter.specs.Filter.{Filter}
use Rattle.point_list.specs.PointList.{encode_list}
use Rattle.filter_file.specs.File.{encode}
use Rattle.filter_file.specs.Write.{contents_of, file_of}
use Rattle.filter_file.proofs.Longest.{longest}
use Rattle.filter_file.proofs.ValidFilter.{filter_valid}

module _ (n : ℕ) (s f : List ℕ) where
  -- the bytes of n, of the list of the set and of that of the table
  length_file : length (file_of n s f) ≡ length (encode_varint n) + length (encode_list (points s)) + length (encode_list (points f))
  unfolding encode
  length_file =
      omega (
        arith,
        length-append (encode_varint n) (encode_list (points s) ++ encode_list (points f)),
        length-append (encode_list (points s)) (encode_list (points f)),
      )

  -- they are at most 2,053
  pub file_fits : Filter n s f → length (encode_varint n) + length (encode_list (points s)) + length (encode_list (points f)) ≤ 2053
  file_fits h = omega (arith, length_file, longest (contents_of n s f) (filter_valid h))

  -- written from the front of a buffer they are the file
  pub file_made : {made one two last : List ℕ} {a b r : ℕ}
      → Appends (encode_varint n) made one 0 a → Appends (encode_list (points s)) one two a b → Appends (encode_list (points f)) two last b r
      → (r ≡ length (file_of n s f)) × (take r last ≡ file_of n s f)
  unfolding encode
  file_made {made} {r = r} first second third =
      let whole = appends_then (omega arith) (appends_then (omega arith) first second) third in
      let same = append_assoc (encode_varint n) (encode_list (points s)) (encode_list (points f)) in
      let long : length (file_of n s f) ≡ r = omega (arith, whole.upto, ap length same) in
      (omega arith, ap (take r) (whole.buffer ∙ ap (λ bs. bs ++ drop r made) same) ∙ take_at (file_of n s f) (drop r made) r long)
