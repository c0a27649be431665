-- The test of a certificate, and what a certificate shows, whoever made it.
--   only_says          the test `only_at` says whether a row is one only at points of a list
--   expresses_says     the test `expresses` says whether points of a list express a row
--   certifies_says     the test `certifies` says whether numbers are a certificate
--   certifies_equal    a certificate shows that the ranks of the set and of the part are equal
use mathlib.Core.Path.{◌≡◌, refl, sym, ◌∙◌}
use mathlib.Core.Logic.{◌↔◌}
use mathlib.Core.Bool.{Bool, true, false, not, ◌||◌, cond, false≢true, and-eq-true_iff}
use mathlib.Core.List.{List, map, Memᴰ}
use Prim.Native.Nat.{ℕ}
use lib.Dec.{eqb}
use lib.ListN.{length}
use borrow.Author.Tests.{eqb-true, eq-eqb}
use Rattle.cube.specs.NumberLists.{lists, Inside, all_below}
use Rattle.cube.specs.Mask.{points}
use Rattle.cube.proofs.AllBelow.{all_says}
use Rattle.cube.proofs.Listed.{lists_member}
use Rattle.filter.specs.Part.{part}
use Rattle.filter.specs.Outside.{Outside, is_outside}
use Rattle.filter.proofs.Outside.{outside_says}
use Rattle.gf2.specs.Vector.{Row, entry, add, total, Zero, OnlyAt, SumOf}
use Rattle.gf2.specs.Elimination.{is_zero}
use Rattle.gf2.specs.Points.{support, Expresses}
use Rattle.gf2.proofs.Chosen.{map_chosen}
use Rattle.gf2.proofs.Dot.{same_zero}
use Rattle.gf2.proofs.Each.{member_each}
use Rattle.gf2.proofs.Reducing.{is_zero_lem}
use Rattle.gf2.proofs.Sums.{sum_of_point}
use Rattle.point_rows.specs.Rows.{row, rows}
use Rattle.immunity.specs.Judgement.{EqualRanks}
use Rattle.immunity.specs.Certificate.{named, Certifies}
use Rattle.immunity.specs.CertificateTest.{only_at, expresses, right_row, certifies}
use Rattle.gf2.proofs.Common.{one_below}
use Rattle.immunity.proofs.Equal.{equal_sums}
use Rattle.immunity.proofs.PartPoints.{part_among}

module _ (qs : List ℕ) (s : Row) where
  -- the test at one point
  at_point : (q : ℕ) → ((not (entry s q) || lists qs q) ≡ true) ↔ (entry s q ≡ true → Memᴰ q qs)
  at_point q = go (entry s q) refl
    where
      go : (b : Bool) → entry s q ≡ b → ((not b || lists qs q) ≡ true) ↔ (b ≡ true → Memᴰ q qs)
      go true e = (λ h one. (lists_member qs q).0 h, λ h. (lists_member qs q).1 (h refl))
      go false e = (λ h one. absurd (false≢true one), λ h. refl)

  -- the test `only_at` says whether a row is one only at points of a list
  pub only_says : (only_at qs s ≡ true) ↔ OnlyAt qs s
  unfolding only_at
  only_says =
      let all = all_says (length s) (λ q. not (entry s q) || lists qs q) in (
        λ h q one. (at_point q).0 (all.0 h q (one_below s q one)) one,
        λ h. all.1 (λ q l. (at_point q).1 (h q)),
      )

  -- the test `expresses` says whether points of a list express a row
  pub expresses_says : (row : ℕ → Row) (v : Row) → (expresses row qs s v ≡ true) ↔ Expresses row qs s v
  unfolding expresses
  expresses_says row v =
      let sum : Row = total (map row (support s qs)) in
      let both = and-eq-true_iff (only_at qs s) (is_zero (add v sum)) in (
        λ e. record {
          only = only_says.0 (both.0 e).0;
          sums = λ c. sym ((same_zero v sum).1 ((is_zero_lem (add v sum)).0 (both.0 e).1) c);
        },
        λ x. both.1 (only_says.1 x.only, (is_zero_lem (add v sum)).1 ((same_zero v sum).0 (λ c. sym (x.sums c)))),
      )

module _ (o : List ℕ) (n d : ℕ) (ss ps c : List ℕ) where
  -- what is named for a point is right
  right_says : (a : ℕ) → (right_row o n d ss ps c a ≡ true)
      ↔ ((Outside ss ps a → Expresses (row o n d) ps (named c a) (row o n d a)) × (¬ Outside ss ps a → Zero (named c a)))
  unfolding right_row
  right_says a = go (is_outside ss ps a) refl
    where
      sums : (expresses (row o n d) ps (named c a) (row o n d a) ≡ true) ↔ Expresses (row o n d) ps (named c a) (row o n d a)
      sums = expresses_says ps (named c a) (row o n d) (row o n d a)

      go : (z : Bool) → is_outside ss ps a ≡ z → (cond z (expresses (row o n d) ps (named c a) (row o n d a)) (is_zero (named c a)) ≡ true)
          ↔ ((Outside ss ps a → Expresses (row o n d) ps (named c a) (row o n d a)) × (¬ Outside ss ps a → Zero (named c a)))
      go true e = let out : Outside ss ps a = (outside_says ss ps a).0 e in (λ h. (λ _. sums.0 h, λ no. absurd (no out)), λ h. sums.1 (h.0 out))
      go false e =
          let no : ¬ Outside ss ps a = λ out. false≢true (sym e ∙ (outside_says ss ps a).1 out) in
          (λ h. (λ out. absurd (no out), λ _. (is_zero_lem (named c a)).0 h), λ h. (is_zero_lem (named c a)).1 (h.1 no))

  -- the test `certifies` says whether numbers are a certificate
  pub certifies_says : Inside 512 ss → (certifies o n d ss ps c ≡ true) ↔ Certifies o n d ss ps c
  unfolding certifies
  certifies_says inside =
      let both = and-eq-true_iff (eqb (length c) 4096) (all_below 512 (right_row o n d ss ps c)) in
      let all = all_says 512 (right_row o n d ss ps c) in (
        λ e. record {
          long = eqb-true (length c) 4096 (both.0 e).0;
          sums = λ a out. ((right_says a).0 (all.0 (both.0 e).1 a (inside a out.0))).0 out;
          others = λ a l no. ((right_says a).0 (all.0 (both.0 e).1 a l)).1 no;
        },
        λ x. both.1 (eq-eqb (length c) 4096 x.long, all.1 (λ a l. (right_says a).1 (x.sums a, x.others a l))),
      )

-- a row that points express is a sum of their rows
expressed_sum : {row : ℕ → Row} {ps : List ℕ} {t v : Row} → Expresses row ps t v → SumOf (map row ps) v
expressed_sum {row} {ps} {t} x = record { choice = map (entry t) ps; sums = rw (← map_chosen row (map (entry t) ps) ps) x.sums }

-- a certificate shows that the ranks of the set and of the part are equal
pub certifies_equal : (o : List ℕ) (n d side : ℕ) (s f c : List ℕ) → Certifies o n d (points s) (part side s f) c → EqualRanks o n s f side d
certifies_equal o n d side s f c x =
    (equal_sums o n d (points s) (part side s f) (part_among side s f)).1
    (member_each (λ a. SumOf (rows o n d (part side s f)) (row o n d a)) (points s) (λ a m. go a m (lists (part side s f) a) refl))
  where
    go : (a : ℕ) → Memᴰ a (points s) → (b : Bool) → lists (part side s f) a ≡ b → SumOf (rows o n d (part side s f)) (row o n d a)
    go a m true e = sum_of_point (row o n d) ((lists_member (part side s f) a).0 e)
    go a m false e = expressed_sum (x.sums a (m, λ i. false≢true (sym e ∙ (lists_member (part side s f) a).1 i)))
