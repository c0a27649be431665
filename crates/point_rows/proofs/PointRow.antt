-- The row of a point in the workspace.
--   wide_row o n d a    the row of the point a at degree d, continued by zeros to 512 columns
--   short_row          the row of a point has at most 512 columns
--   row_prefix         the row of a point at a degree is the front of its row at a higher degree
--   exponents_row      the exponents of n taps at a point are its row at degree n, continued by zeros
--   first_columns      the first columns of that are its row at degree d, continued by zeros
--   common_monomials   the monomials at a point that is the common bits of two others
use mathlib.Core.Path.{◌≡◌, refl, sym, ap, ◌∙◌}
use mathlib.Core.Bool.{Bool, false, ◌&&◌}
use mathlib.Core.List.{List, [], ◌∷◌, ◌++◌, map, map-append}
use Prim.Native.Nat.{ℕ, zero, suc, ◌-◌, ◌≤◌, ◌<◌}
use native.Mathlib.Omega.{arith}
use lib.Bits.{bit_and, and_le_r}
use lib.Dec.{ltb}
use lib.ListN.{length, take, replicate, length-map}
use Rattle.std.proofs.lemmas.List.{take-map}
use borrow.Author.Tests.{ne_eqb}
use Rattle.cube.specs.NumberLists.{select}
use Rattle.cube.specs.Cube.{size, within}
use Rattle.order.specs.Order.{Graded, columns}
use Rattle.cube.proofs.Bits.{within_and}
use Rattle.cube.proofs.Listed.{length_select}
use Rattle.order.proofs.DegreeColumns.{length_columns, columns_all, columns_prefix}
use Rattle.gf2.specs.Vector.{Row}
use Rattle.gf2.specs.Cut.{cut, common, padded}
use Rattle.gf2.proofs.Each.{member_each, map_each}
use Rattle.gf2.proofs.Padded.{append_padded, cut_padded}
use Rattle.point_rows.specs.Rows.{monomials, row}
use Rattle.point_rows.specs.Workspace.{exponents}

-- the row of the point a at degree d, continued by zeros to 512 columns
abbrev pub wide_row : List ℕ → ℕ → ℕ → ℕ → Row
wide_row o n d a = padded 512 (row o n d a)

-- the row of a point has at most 512 columns
pub short_row : {o : List ℕ} → Graded o → (n d a : ℕ) → length (row o n d a) ≤ 512
short_row {o} g n d a = rw (length-map (columns o n d) (λ u. within u a)) (length_columns g n d)

-- the row of a point at a degree is the front of its row at a higher degree
pub row_prefix : {o : List ℕ} → Graded o → (n d e a : ℕ) → d ≤ e → row o n d a ≡ take (length (columns o n d)) (row o n e a)
row_prefix {o} g n d e a l =
    ap (λ us. monomials us a) (columns_prefix g n d e l) ∙ sym (take-map (λ u. within u a) (length (columns o n d)) (columns o n e))

-- the images of equal members
map_replicate : (f : ℕ → Bool) (m x : ℕ) → map f (replicate m x) ≡ replicate m (f x)
map_replicate f zero x = refl
map_replicate f (suc m) x = ap (λ ys. f x ∷ ys) (map_replicate f m x)

-- 65535 lies within no point
within_none : (a : ℕ) → a < 512 → within 65535 a ≡ false
unfolding within
within_none a h = ne_eqb (bit_and 65535 a) 65535 (λ e. omega (arith, and_le_r 65535 a))

module _ {o : List ℕ} (g : Graded o) (n : ℕ) where
  -- the exponents of n taps at a point are its row at degree n, continued by zeros
  pub exponents_row : (a : ℕ) → a < 512 → monomials (exponents o n) a ≡ wide_row o n n a
  unfolding exponents
  exponents_row a h =
      let us : List ℕ = select (λ u. ltb u (size n)) o in
      let f : ℕ → Bool = λ u. within u a in
      let l : length (map f us) ≡ length us = length-map us f in
      let few : length (map f us) ≤ 512 = omega (arith, l, length_select (λ u. ltb u (size n)) o, g.long) in
      map-append f us (replicate (512 - length us) 65535)
      ∙ ap (λ v. map f us ++ v) (map_replicate f (512 - length us) 65535 ∙ ap (λ b. replicate (512 - length us) b) (within_none a h))
      ∙ ap (λ m. map f us ++ replicate (512 - m) false) (sym l)
      ∙ append_padded 512 (map f us) few
      ∙ ap (λ cs. padded 512 (map f cs)) (sym (columns_all o n))

  -- the first columns of that are its row at degree d, continued by zeros
  pub first_columns : (d a : ℕ) → d ≤ n → a < 512 → cut (length (columns o n d)) (monomials (exponents o n) a) ≡ wide_row o n d a
  first_columns d a l h =
      let c : ℕ = length (columns o n d) in
      ap (cut c) (exponents_row a h) ∙ cut_padded c 512 (row o n n a) ∙ ap (padded 512) (sym (row_prefix g n d n a l))

-- the common ones of two tests of the members of a list
common_map : (f g : ℕ → Bool) (xs : List ℕ) → common (map f xs) (map g xs) ≡ map (λ u. f u && g u) xs
unfolding common
common_map f g [] = refl
common_map f g (x ∷ xs) = ap (λ v. (f x && g x) ∷ v) (common_map f g xs)

-- the monomials at a point that is the common bits of two others
pub common_monomials : (us : List ℕ) (p q a : ℕ) → bit_and p q ≡ a → common (monomials us p) (monomials us q) ≡ monomials us a
common_monomials us p q a e =
    common_map (λ u. within u p) (λ u. within u q) us
    ∙ map_each _ _ us (member_each (λ u. (within u p && within u q) ≡ within u a) us (λ u m. sym (within_and u p q) ∙ ap (within u) e))
