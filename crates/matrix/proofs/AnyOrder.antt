-- The rank of points is the same in every graded order of the columns.
--   entry_total    an entry of a sum of rows of points is the sum of a monomial over the points
--   zero_total     rows of points sum to zero just if every monomial up to the degree does over the points
--   rank_ordered   the rank of points is the same in every graded order
use mathlib.Core.Path.{◌≡◌, refl, sym, ap, ◌∙◌}
use mathlib.Core.Logic.{◌↔◌}
use mathlib.Core.Bool.{false}
use mathlib.Core.List.{List, [], ◌∷◌, map}
use Prim.Native.Nat.{ℕ, zero, suc, ◌≤◌, ◌<◌}
use native.Mathlib.Decide.{dec_lt}
use native.Mathlib.Omega.{arith}
use lib.ListN.{length, get_or, length-map, get_or-eq_default}
use Rattle.cube.specs.Cube.{size, within, weight}
use Rattle.order.specs.Order.{Graded, columns}
use Rattle.cube.proofs.Listed.{member_place, place_member}
use Rattle.order.proofs.DegreeColumns.{member_columns}
use Rattle.gf2.specs.Vector.{entry, total, Zero}
use Rattle.gf2.specs.Rank.{Rank}
use Rattle.gf2.proofs.Bits.{xor_self}
use Rattle.gf2.proofs.Dot.{entry_add}
use Rattle.gf2.proofs.Rank.{rank_alike}
use Rattle.polynomial.proofs.Sums.{sum_over}
use Rattle.point_rows.specs.Rows.{monomials, row, rows}

-- a monomial's entry at a point
entry_monomials : (us : List ℕ) (a c : ℕ) → c < length us → entry (monomials us a) c ≡ within (get_or us c 0) a
entry_monomials [] a c h = absurd (omega arith)
entry_monomials (u ∷ us) a zero h = refl
entry_monomials (u ∷ us) a (suc c) h = entry_monomials us a c (omega arith)

-- an entry of a sum of rows of points is the sum of a monomial over the points
pub entry_total : (us qs : List ℕ) (c : ℕ) → c < length us → entry (total (map (monomials us) qs)) c ≡ sum_over qs (within (get_or us c 0))
unfolding total sum_over
entry_total us [] c h = refl
entry_total us (a ∷ qs) c h = rw (entry_add, entry_monomials us a c h, entry_total us qs c h)

-- past the columns a sum is zero
total_past : (us qs : List ℕ) (c : ℕ) → length us ≤ c → entry (total (map (monomials us) qs)) c ≡ false
unfolding total
total_past us [] c h = refl
total_past us (a ∷ qs) c h =
    let past : entry (monomials us a) c ≡ false = get_or-eq_default (monomials us a) false (rw length-map h) in
    rw (entry_add, past, total_past us qs c h) (xor_self false)

module _ {o : List ℕ} (g : Graded o) {n : ℕ} (small : n ≤ 9) (d : ℕ) where
  -- rows of points sum to zero just if every monomial up to the degree does over the points
  pub zero_total : (qs : List ℕ) → Zero (total (rows o n d qs)) ↔ ((u : ℕ) → u < size n → weight u ≤ d → sum_over qs (within u) ≡ false)
  zero_total qs = (
    λ z u l w.
        let p = member_place ((member_columns g n d u small).1 (l, w)) in
        ap (λ v. sum_over qs (within v)) (sym p.2) ∙ sym (entry_total (columns o n d) qs p.0 p.1) ∙ z p.0,
    λ h c. elim (dec_lt c (length (columns o n d))) [
      | yes l ↦
          let m = (member_columns g n d (get_or (columns o n d) c 0) small).0 (place_member (columns o n d) c l) in
          entry_total (columns o n d) qs c l ∙ h (get_or (columns o n d) c 0) m.0 m.1
      | no l ↦ total_past (columns o n d) qs c (omega arith)
    ],
  )

-- the rank of points is the same in every graded order
pub rank_ordered : {o o' : List ℕ} → Graded o → Graded o' → (n d : ℕ) → n ≤ 9 → (ps : List ℕ) {r : ℕ} → Rank (rows o n d ps) r → Rank (rows o' n d ps) r
rank_ordered {o} {o'} g g' n d s ps R = rank_alike (row o n d) (row o' n d) (λ qs. (
  λ z. (zero_total g' s d qs).1 ((zero_total g s d qs).0 z),
  λ z. (zero_total g s d qs).1 ((zero_total g' s d qs).0 z),
)) ps R
