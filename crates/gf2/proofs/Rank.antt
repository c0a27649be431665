-- Ranks: of a basis, of fewer rows, and when fewer rows have the same rank.
--   Basis rs            a choice of independent rows of which all rows are sums
--   basis               every list has a basis: from the last row on, each row that is no sum of the rows chosen is chosen
--   rank_of_basis       the number of rows of a basis is the rank
--   rank_most           independent sums of the rows are no more than the rank
--   rank_sums           every sum of the rows is a sum of as many independent sums of them as the rank
--   rank_le             sums of rows have no greater rank
--   rank_unique         a list has one rank
--   rank_alike          rows of points that have the same zero sums have the same rank
--   rank_equal          sums of rows have the same rank just if all rows are sums of them
--   equal_point_ranks   the rows of some of the points have the rank of the rows of all just if each point's row is a sum of them
use mathlib.Core.Path.{◌≡◌, refl, sym, ap, ◌∙◌, subst}
use mathlib.Core.Bool.{true, false}
use mathlib.Core.List.{List, [], ◌∷◌, map, Memᴰ}
use mathlib.Core.Logic.{◌↔◌}
use Prim.Native.Nat.{ℕ, ◌≤◌}
use native.Mathlib.Omega.{arith}
use lib.ListN.{length, replicate, length-map}
use Rattle.gf2.specs.Vector.{Row, total, Zero, Each, Choice, chosen, SumOf}
use Rattle.gf2.specs.Rank.{Independent, Rank}
use Rattle.gf2.proofs.Each.{each_map, each_of_map}
use Rattle.gf2.proofs.Chosen.{map_chosen}
use Rattle.gf2.proofs.Sums.{sum_first, sum_later, sum_trans, sum_of_point, sums_self, sums_chosen}
use Rattle.gf2.proofs.Duality.{decide_sum}
use Rattle.gf2.proofs.Independence.{independent_apart}
use Rattle.gf2.proofs.Exchange.{exchange}

-- a choice of independent rows of which all rows are sums
pub record Basis (rs : List Row) : Type 0 where
  pub choice : Choice
  pub independent : Independent (chosen choice rs)
  pub sums : Each (SumOf (chosen choice rs)) rs

-- every list has a basis: from the last row on, each row that is no sum of the rows chosen is chosen
pub basis : (rs : List Row) → Basis rs
unfolding chosen
basis [] = record { choice = []; independent = (independent_apart []).1 tt; sums = tt }
basis (r ∷ rs) = go (basis rs)
  where
    go : Basis rs → Basis (r ∷ rs)
    go b = elim (decide_sum (chosen b.choice rs) r) [
      | yes s ↦ record { choice = false ∷ b.choice; independent = b.independent; sums = (s, b.sums) }
      | no n ↦ record {
        choice = true ∷ b.choice;
        independent = (independent_apart (r ∷ chosen b.choice rs)).1 (n, (independent_apart (chosen b.choice rs)).0 b.independent);
        sums = (sum_first, each_map (λ v. sum_later) rs b.sums);
      }
    ]

-- the number of rows of a basis is the rank
pub rank_of_basis : (rs : List Row) (c : Choice) → Independent (chosen c rs) → Each (SumOf (chosen c rs)) rs → Rank rs (length (chosen c rs))
rank_of_basis rs c h g = record {
  basis = c;
  independent = h;
  count = refl;
  most = λ d k. exchange (chosen c rs) (chosen d rs) k (each_map (λ v. sum_trans g) (chosen d rs) (sums_chosen d rs));
}

-- independent sums of the rows are no more than the rank
pub rank_most : {rs : List Row} {r : ℕ} → Rank rs r → (bs : List Row) → Independent bs → Each (SumOf rs) bs → length bs ≤ r
rank_most {rs} {r} R bs h g =
    let b : Basis rs = basis rs in
    omega (arith, exchange (chosen b.choice rs) bs h (each_map (λ v. sum_trans b.sums) bs g), R.most b.choice b.independent)

-- every sum of the rows is a sum of as many independent sums of them as the rank
pub rank_sums : {rs : List Row} {r : ℕ} → Rank rs r → (bs : List Row) → Independent bs → Each (SumOf rs) bs → r ≤ length bs
    → {v : Row} → SumOf rs v → SumOf bs v
rank_sums {rs} {r} R bs h g l {v} s = elim (decide_sum bs v) [
  | yes t ↦ t
  | no n ↦ absurd (omega (arith, rank_most R (v ∷ bs) ((independent_apart (v ∷ bs)).1 (n, (independent_apart bs).0 h)) (s, g)))
]

-- sums of rows have no greater rank
pub rank_le : {rs ts : List Row} {r s : ℕ} → Rank rs r → Rank ts s → Each (SumOf rs) ts → s ≤ r
rank_le {rs} {ts} R S h =
    let bs : List Row = chosen S.basis ts in
    omega (arith, rank_most R bs S.independent (each_map (λ v. sum_trans h) bs (sums_chosen S.basis ts)))

-- a list has one rank
pub rank_unique : {rs : List Row} {r s : ℕ} → Rank rs r → Rank rs s → r ≡ s
rank_unique {rs} R S = omega (arith, rank_le R S (sums_self rs), rank_le S R (sums_self rs))

module _ (row row' : ℕ → Row) (alike : (qs : List ℕ) → Zero (total (map row qs)) ↔ Zero (total (map row' qs))) where
  -- where some of them are independent, so are the others
  independent_alike : (qs : List ℕ) → Independent (map row qs) → Independent (map row' qs)
  independent_alike qs h c l z =
      let count : length (map row qs) ≡ length (map row' qs) = length-map qs row ∙ sym (length-map qs row') in
      let zero : Zero (total (chosen c (map row qs))) =
      subst (λ rs. Zero (total rs)) (map_chosen row c qs) ((alike (chosen c qs)).1 (subst (λ rs. Zero (total rs)) (sym (map_chosen row' c qs)) z)) in
      h c (l ∙ sym count) zero ∙ ap (λ n. replicate n false) count

-- rows of points that have the same zero sums have the same rank
pub rank_alike : (row row' : ℕ → Row) → ((qs : List ℕ) → Zero (total (map row qs)) ↔ Zero (total (map row' qs)))
    → (ps : List ℕ) {r : ℕ} → Rank (map row ps) r → Rank (map row' ps) r
rank_alike row row' alike ps R = record {
  basis = R.basis;
  independent = moved row row' alike R.basis R.independent;
  count = same row' row R.basis ∙ R.count;
  most = λ c h. omega (arith, same row row' c, R.most c (moved row' row (λ qs. ((alike qs).1, (alike qs).0)) c h));
}
  where
    moved : (f g : ℕ → Row) → ((qs : List ℕ) → Zero (total (map f qs)) ↔ Zero (total (map g qs)))
        → (c : Choice) → Independent (chosen c (map f ps)) → Independent (chosen c (map g ps))
    moved f g h c i =
        subst Independent (map_chosen g c ps) (independent_alike f g h (chosen c ps) (subst Independent (sym (map_chosen f c ps)) i))

    same : (f g : ℕ → Row) (c : Choice) → length (chosen c (map f ps)) ≡ length (chosen c (map g ps))
    same f g c = sym (ap length (map_chosen f c ps)) ∙ length-map (chosen c ps) f ∙ sym (length-map (chosen c ps) g) ∙ ap length (map_chosen g c ps)

-- sums of rows have the same rank just if all rows are sums of them
pub rank_equal : {rs ts : List Row} {r s : ℕ} → Rank rs r → Rank ts s → Each (SumOf rs) ts → (r ≡ s) ↔ Each (SumOf ts) rs
rank_equal {rs} {ts} {r} {s} R S h = (there, λ g. omega (arith, rank_le R S h, rank_le S R g))
  where
    bs : List Row
    bs = chosen S.basis ts

    among : Each (SumOf ts) bs
    among = sums_chosen S.basis ts

    there : r ≡ s → Each (SumOf ts) rs
    there e =
        let within : Each (SumOf rs) bs = each_map (λ v. sum_trans h) bs among in
        each_map (λ v t. sum_trans among (rank_sums R bs S.independent within (omega arith) t)) rs (sums_self rs)

-- the rows of some of the points have the rank of the rows of all just if each point's row is a sum of them
pub equal_point_ranks : (row : ℕ → Row) (ps qs : List ℕ) {r s : ℕ} → Each (λ a. Memᴰ a qs) ps
    → Rank (map row qs) r → Rank (map row ps) s → (r ≡ s) ↔ Each (λ a. SumOf (map row ps) (row a)) qs
equal_point_ranks row ps qs h R S =
    let among : Each (SumOf (map row qs)) (map row ps) = (each_of_map (SumOf (map row qs)) row ps).1 (each_map (λ a. sum_of_point row) ps h) in
    let back : Each (SumOf (map row ps)) (map row qs) ↔ Each (λ a. SumOf (map row ps) (row a)) qs = each_of_map (SumOf (map row ps)) row qs in
    (λ e. back.0 ((rank_equal R S among).0 e), λ g. (rank_equal R S among).1 (back.1 g))
