-- The rows of a workspace.
--   row_at          row j is what its numbers hold
--   length_row      each row has 512 columns
--   length_stored   a workspace where one row is stored is as long as before
--   entry_at        the entry of row j at a column
--   get_or_words    number k of row j of a list of numbers
--   length_words    there are eight
--   chunk_words     row j of the rows of eight that the library cuts a list into is these eight
use mathlib.Core.Path.{◌≡◌, refl, sym, ap, ap₂, ◌∙◌}
use mathlib.Core.Bool.{Bool}
use mathlib.Core.List.{List, []}
use Prim.Native.Nat.{ℕ, zero, suc, ◌+◌, ◌*◌, ◌≤◌, ◌<◌}
use native.Mathlib.Omega.{arith}
use Rattle.std.proofs.lemmas.List.{get_or-map}
use lib.ListN.{length, get_or, set, take, drop, length-drop, length-map, length-set}
use lib.Seq.{drop-drop, length-take-le, get_or-drop, get_or-take}
use Rattle.std.specs.Simd.{first_chunks}
use Rattle.gf2.specs.Vector.{Row, entry}
use Rattle.gf2.specs.Steps.{row_of}
use Rattle.packed.specs.Packed.{unpack, unpacked, words}
use Rattle.packed.proofs.Words.{length_unpack}

-- row j is what its numbers hold
pub row_at : (ws : List (List ℕ)) (j : ℕ) → j < length ws → row_of (unpacked ws) j ≡ unpack (get_or ws j [])
row_at ws j h = get_or-map unpack ws j [] [] h

-- each row has 512 columns
pub length_row : (ws : List (List ℕ)) (j : ℕ) → j < length (unpacked ws) → length (row_of (unpacked ws) j) ≡ 512
length_row ws j h = ap length (row_at ws j (rw length-map at h)) ∙ length_unpack (get_or ws j [])

-- a workspace where one row is stored is as long as before
pub length_stored : (ws₀ ws : List (List ℕ)) (j : ℕ) (v : Row) → unpacked ws ≡ set (unpacked ws₀) j v
    → length ws ≡ length ws₀
length_stored ws₀ ws j v e = simp (length-set, length-map) at (ap length e)

-- the entry of row j at a column
pub entry_at : (ws : List (List ℕ)) (j p c : ℕ) (b : Bool) → j < length ws → b ≡ entry (unpack (get_or ws j [])) p
    → p ≡ c → b ≡ entry (row_of (unpacked ws) j) c
entry_at ws j p c b h e f = e ∙ ap₂ entry (sym (row_at ws j h)) f

-- number k of row j of a list of numbers
pub get_or_words : (ws : List ℕ) (j k : ℕ) → k < 8 → get_or (words ws j) k 0 ≡ get_or ws (j * 8 + k) 0
get_or_words ws j k h = get_or-take 8 (drop (j * 8) ws) k 0 h ∙ get_or-drop (j * 8) ws k 0

-- there are eight
pub length_words : (ws : List ℕ) (j : ℕ) → j * 8 + 8 ≤ length ws → length (words ws j) ≡ 8
length_words ws j h = length-take-le 8 (drop (j * 8) ws) (rw length-drop (omega arith))

-- row j of the rows of eight
pub chunk_words : (k : ℕ) (ws : List ℕ) (j : ℕ) → j < k → get_or (first_chunks 8 k ws) j [] ≡ words ws j
chunk_words zero ws j h = absurd (omega arith)
chunk_words (suc k) ws zero h = refl
chunk_words (suc k) ws (suc j) h =
    let e : 8 + j * 8 ≡ suc j * 8 = omega arith in
    chunk_words k (drop 8 ws) j (omega arith) ∙ ap (take 8) (drop-drop (j * 8) 8 ws ∙ ap (λ i. drop i ws) e)
