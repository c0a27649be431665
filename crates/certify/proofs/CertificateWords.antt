-- The numbers of a certificate as the rows in the workspace.
--   word_number     a number of a row is 64 of its bits
--   RowsTo ..       the numbers of the rows below a are those of the certificate, and all later ones 0
--   rows_none       no row is written yet
--   rows_yes        the next row is copied from the workspace
--   rows_no         it stays 0
--   rows_all        all rows
use mathlib.Core.Path.{◌≡◌, refl, sym, ap, ap₂, ◌∙◌}
use mathlib.Core.Logic.{◌⊎◌, inl, inr}
use mathlib.Core.Bool.{true, false}
use mathlib.Core.List.{List}
use Prim.Native.Nat.{ℕ, ◌+◌, ◌-◌, ◌*◌, ◌/◌, ◌%◌, ◌^◌, ◌≤◌, ◌<◌}
use native.Mathlib.Decide.{dec_lt}
use native.Mathlib.Omega.{arith}
use lib.ListN.{length, get_or, take, drop, length-map}
use lib.Seq.{drop-nil, ext_get_or}
use Rattle.cube.specs.NumberLists.{below}
use Rattle.cube.specs.Mask.{points}
use Rattle.cube.proofs.Masks.{length_from, value_at}
use Rattle.gf2.specs.Vector.{Row}
use Rattle.gf2.specs.Steps.{row_of}
use Rattle.packed.specs.Packed.{unpack, number, zeros}
use Rattle.packed.proofs.Packing.{row_word}
use Rattle.packed.proofs.Clearing.{zeros_at}
use Rattle.immunity.specs.Certificate.{row_if, number_at}
use Rattle.filter.specs.Outside.{is_outside}
use Rattle.certify.specs.Sums.{outside_row, word_of, written}

-- a number of a row is 64 of its bits
pub word_number : (u : List ℕ) (k : ℕ) → k < 8 → get_or u k 0 < 2 ^ 64 → get_or u k 0 ≡ word_of (unpack u) k
word_number u k few small =
    let from : 64 * k ≡ k * 64 = omega arith in
    sym (ap (λ n. number (take 64 (drop n (unpack u)))) from ∙ row_word u k few small)

-- number k of the row a
number_of : (x : ℕ → Row) (a k i : ℕ) → k < 8 → i ≡ 8 * a + k → word_of (x a) k ≡ number_at x i
number_of x a k i l e =
    let row : a ≡ i / 8 = omega arith in
    let place : k ≡ i % 8 = omega arith in
    ap₂ (λ b j. number (take 64 (drop (64 * j) (x b)))) row place

-- the numbers of the rows below a are those of the certificate, and all later ones 0
pub record RowsTo (s b : List ℕ) (t : List Row) (a : ℕ) (c : List ℕ) : Type 0 where
  pub rows : (i : ℕ) → i < 8 * a → get_or c i 0 ≡ number_at (outside_row s b t) i
  pub later : (i : ℕ) → 8 * a ≤ i → get_or c i 0 ≡ 0

module _ (s b : List ℕ) (t : List Row) where
  -- no row is written yet
  pub rows_none : (m : ℕ) → RowsTo s b t 0 (zeros m)
  rows_none m = record { rows = λ i l. absurd (omega arith); later = λ i l. zeros_at m i }

  module _ (a : ℕ) (c : List ℕ) (h : RowsTo s b t a c) where
    -- one row more
    rows_next : (c' : List ℕ) → ((k : ℕ) → k < 8 → get_or c' (8 * a + k) 0 ≡ word_of (outside_row s b t a) k)
        → ((i : ℕ) → (i < 8 * a) ⊎ (8 * a + 8 ≤ i) → get_or c' i 0 ≡ get_or c i 0) → RowsTo s b t (a + 1) c'
    rows_next c' here others = record {
      rows = λ i q. elim (dec_lt i (8 * a)) [
        | yes low ↦ others i (inl low) ∙ h.rows i low
        | no high ↦
            let k : ℕ = i - 8 * a in
            let e : i ≡ 8 * a + k = omega arith in
            ap (λ j. get_or c' j 0) e ∙ here k (omega arith) ∙ number_of (outside_row s b t) a k i (omega arith) e
      ];
      later = λ i q. others i (inr (omega arith)) ∙ h.later i (omega arith);
    }

    -- the next row is copied from the workspace
    pub rows_yes : is_outside (points s) (points b) a ≡ true → (c' : List ℕ)
        → ((k : ℕ) → k < 8 → get_or c' (8 * a + k) 0 ≡ word_of (row_of t (512 + a)) k)
        → ((i : ℕ) → (i < 8 * a) ⊎ (8 * a + 8 ≤ i) → get_or c' i 0 ≡ get_or c i 0) → RowsTo s b t (a + 1) c'
    unfolding outside_row row_if
    rows_yes e c' copied others = rows_next c' (λ k q. copied k q ∙ rw e) others

    -- it stays 0
    pub rows_no : is_outside (points s) (points b) a ≡ false → RowsTo s b t (a + 1) c
    unfolding outside_row row_if number
    rows_no e = rows_next c (λ k q. h.later (8 * a + k) (omega arith) ∙ rw (e, drop-nil)) (λ i q. refl)

  -- all rows
  pub rows_all : (c : List ℕ) → length c ≡ 4096 → RowsTo s b t 512 c → c ≡ written s b t
  rows_all c long h =
      let x : ℕ → ℕ = number_at (outside_row s b t) in
      ext_get_or 0 c (written s b t) (long ∙ sym (length-map (below 4096) x ∙ length_from 0 4096)) (λ i q. h.rows i (omega arith) ∙ sym (value_at x 4096 i 0 (omega arith)))
