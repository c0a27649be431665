-- Combinations of some of the points are combinations of all.
--   expresses_alike   only the entries of a combination matter
--   expresses_all     what is expressed over points chosen from rising points is expressed over all of them
--   expresses_kept    what is expressed over kept points is expressed over all points
use mathlib.Core.Path.{◌≡◌, refl, sym, ap, subst}
use mathlib.Core.Logic.{◌⊎◌, inl, inr}
use mathlib.Core.Bool.{Bool, true, false}
use mathlib.Core.List.Memᴰ
use mathlib.Core.List.{List, [], ◌∷◌, map, Memᴰ}
use Prim.Native.Nat.{ℕ, ◌<◌}
use native.Mathlib.Omega.{arith}
use lib.ListN.{length}
use Rattle.gf2.specs.Vector.{Row, entry, Same, Each, Choice, chosen}
use Rattle.gf2.specs.Elimination.{eliminate}
use Rattle.gf2.specs.Points.{Rising, support, Expresses}
use Rattle.gf2.proofs.Bits.{not_one}
use Rattle.gf2.proofs.Each.{each_map₂, each_member, member_each, each_chosen, chosen_among, map_each}
use Rattle.gf2.proofs.Kept.{points_chosen}

-- what is one only at points chosen from rising points has the same ones among all of them
support_among : (s : Row) (c : Choice) (ps : List ℕ) → length c ≡ length ps → Rising ps
    → Each (λ q. entry s q ≡ true → Memᴰ q (chosen c ps)) ps → support s ps ≡ support s (chosen c ps)
unfolding chosen
support_among s [] [] l r h = refl
support_among s [] (a ∷ ps) l r h = absurd (omega arith)
support_among s (b ∷ c) [] l r h = absurd (omega arith)
support_among s (true ∷ c) (a ∷ ps) l r h =
    go (entry s a) (support_among s c ps (omega arith) r.1 (each_map₂ (λ q i f e. apart q i (Memᴰ.cases_cons (f e))) ps r.0 h.1))
  where
    apart : (q : ℕ) → a < q → (q ≡ a) ⊎ Memᴰ q (chosen c ps) → Memᴰ q (chosen c ps)
    apart q i (inl e) = absurd (omega arith)
    apart q i (inr m) = m

    go : (b : Bool) → support s ps ≡ support s (chosen c ps)
        → chosen (b ∷ map (entry s) ps) (a ∷ ps) ≡ chosen (b ∷ map (entry s) (chosen c ps)) (a ∷ chosen c ps)
    go true e = ap (λ l. a ∷ l) e
    go false e = e
support_among s (false ∷ c) (a ∷ ps) l r h = rw none (support_among s c ps (omega arith) r.1 h.1)
  where
    none : entry s a ≡ false
    none = not_one (entry s a) (λ e. let i : a < a = each_member (λ q. a < q) (each_chosen (λ q. a < q) c ps r.0) (h.0 e) in omega arith)

module _ (row : ℕ → Row) where
  -- only the entries of a combination matter
  pub expresses_alike : {qs : List ℕ} {s t v : Row} → Same s t → Expresses row qs s v → Expresses row qs t v
  expresses_alike {qs} {s} {t} e x = record {
    only = λ q i. x.only q (rw (e q) i);
    sums = λ c. rw (← map_each (entry s) (entry t) qs (member_each (λ q. entry s q ≡ entry t q) qs (λ q m. e q))) (x.sums c);
  }

  -- what is expressed over points chosen from rising points is expressed over all of them
  pub expresses_all : (c : Choice) (ps : List ℕ) → length c ≡ length ps → Rising ps → {s v : Row}
      → Expresses row (chosen c ps) s v → Expresses row ps s v
  expresses_all c ps l r {s} x = record {
    only = λ q e. each_member (λ p. Memᴰ p ps) (chosen_among c ps) (x.only q e);
    sums = λ k. rw (support_among s c ps l r (member_each (λ q. entry s q ≡ true → Memᴰ q (chosen c ps)) ps (λ q m. x.only q))) (x.sums k);
  }

  -- what is expressed over kept points is expressed over all points
  pub expresses_kept : (ps : List ℕ) → Rising ps → {s v : Row} → Expresses row (eliminate row ps).points s v → Expresses row ps s v
  expresses_kept ps r {s} {v} x =
      let (c, l, e) = points_chosen row ps in
      expresses_all c ps l r (subst (λ qs. Expresses row qs s v) (sym e) x)
