-- Rising points, and what rows over points express.
--   rising_front       points in front rise
--   rising_middle      points before one are less than it, and points after it are greater
--   rising_chosen      chosen points rise
--   expresses_none     zero expresses zero
--   expresses_same     only the entries of what is expressed matter
--   expresses_add      sums express sums
--   expresses_more     what is expressed over points is expressed with one more point
--   expresses_unit     the unit row of a point expresses its row
--   expresses_total    totals chosen alike from combinations and from what they express
--   expresses_unique   where the rows of the points are independent, a row is expressed in one way
use mathlib.Core.Path.{◌≡◌, refl, sym, ap₂, ◌∙◌}
use mathlib.Core.Logic.{⊎_elim}
use mathlib.Core.Bool.{Bool, true, false, false≢true}
use mathlib.Core.List.Memᴰ
use mathlib.Core.List.{List, [], ◌∷◌, ◌++◌, map, map-append, append-nil, Memᴰ}
use Prim.Native.Nat.{ℕ, ◌<◌}
use native.Mathlib.Decide.{ℕ_discrete}
use native.Mathlib.Omega.{arith}
use lib.ListN.{length, replicate, length-map}
use Rattle.gf2.specs.Vector.{Row, entry, add, total, unit, Same, Each, Choice, chosen}
use Rattle.gf2.specs.Rank.{Independent}
use Rattle.gf2.specs.Points.{Rising, support, Expresses}
use Rattle.gf2.proofs.Bits.{bits, xor_true, xor_false, not_one}
use Rattle.gf2.proofs.Each.{each_map, each_front, each_middle, each_chosen, each_member, member_each}
use Rattle.gf2.proofs.Paired.{Paired}
use Rattle.gf2.proofs.Dot.{entry_add, same_zero, entry_unit, entry_unit_other}
use Rattle.gf2.proofs.Chosen.{chosen_append, map_chosen, total_add}

-- points in front rise
pub rising_front : (ps qs : List ℕ) → Rising (ps ++ qs) → Rising ps
rising_front [] qs h = tt
rising_front (a ∷ ps) qs h = (each_front (λ b. a < b) ps qs h.0, rising_front ps qs h.1)

-- points before one are less than it, and points after it are greater
pub rising_middle : (ps : List ℕ) (a : ℕ) (qs : List ℕ) → Rising (ps ++ (a ∷ qs)) → Each (λ b. b < a) ps × Each (λ b. a < b) qs
rising_middle [] a qs h = (tt, h.0)
rising_middle (b ∷ ps) a qs h =
    let (less, greater) = rising_middle ps a qs h.1 in
    ((each_middle (λ c. b < c) ps a qs h.0, less), greater)

-- chosen points rise
pub rising_chosen : (c : Choice) (ps : List ℕ) → Rising ps → Rising (chosen c ps)
unfolding chosen
rising_chosen [] ps h = tt
rising_chosen (b ∷ c) [] h = tt
rising_chosen (true ∷ c) (a ∷ ps) h = (each_chosen (λ b. a < b) c ps h.0, rising_chosen c ps h.1)
rising_chosen (false ∷ c) (a ∷ ps) h = rising_chosen c ps h.1

-- the values of a sum at points
map_add : (s t : Row) (qs : List ℕ) → map (entry (add s t)) qs ≡ add (map (entry s) qs) (map (entry t) qs)
unfolding add
map_add s t [] = refl
map_add s t (q ∷ qs) = ap₂ (λ b l. b ∷ l) (entry_add s t q) (map_add s t qs)

-- a row that is zero at each point has no ones there
support_none : (s : Row) (qs : List ℕ) → Each (λ q. entry s q ≡ false) qs → support s qs ≡ []
unfolding chosen
support_none s [] zs = refl
support_none s (q ∷ qs) zs = rw zs.0 (support_none s qs zs.1)

-- one more point is a one, or not
support_snoc : (s : Row) (qs : List ℕ) (a : ℕ) → support s (qs ++ (a ∷ [])) ≡ support s qs ++ chosen (entry s a ∷ []) (a ∷ [])
support_snoc s qs a = rw map-append (chosen_append (map (entry s) qs) (entry s a ∷ []) qs (a ∷ []) (length-map qs (entry s)))

module _ (row : ℕ → Row) where
  -- the rows at the ones of s are chosen from the rows of all points of the list
  total_support : (s : Row) (qs : List ℕ) → Same (total (map row (support s qs))) (total (chosen (map (entry s) qs) (map row qs)))
  total_support s qs c = rw map_chosen

  -- zero expresses zero
  pub expresses_none : (qs : List ℕ) → Expresses row qs [] []
  unfolding total
  expresses_none qs = record {
    only = λ q e. absurd (false≢true e);
    sums = λ c. rw (support_none [] qs (member_each (λ q. entry [] q ≡ false) qs (λ q m. refl)));
  }

  -- only the entries of what is expressed matter
  pub expresses_same : {qs : List ℕ} {s v w : Row} → Same v w → Expresses row qs s v → Expresses row qs s w
  expresses_same e x = record { only = x.only; sums = λ c. x.sums c ∙ e c }

  -- sums express sums
  pub expresses_add : {qs : List ℕ} {s t v w : Row} → Expresses row qs s v → Expresses row qs t w → Expresses row qs (add s t) (add v w)
  expresses_add {qs} {s} {t} x y = record {
    only = λ q e. ⊎_elim (x.only q) (y.only q) (xor_true (entry s q) (entry t q) (sym (entry_add s t q) ∙ e));
    sums = λ c. rw (total_support (add s t) qs c, map_add s t qs, total_add) (simp (entry_add, ← total_support, x.sums c, y.sums c));
  }

  -- what is expressed over points is expressed with one more point
  pub expresses_more : (qs : List ℕ) (a : ℕ) → Each (λ q. q < a) qs → {s v : Row} → Expresses row qs s v
      → Expresses row (qs ++ (a ∷ [])) s v
  unfolding chosen
  expresses_more qs a h {s} x = record {
    only = λ q e. Memᴰ.append_left (a ∷ []) (x.only q e);
    sums = λ c. rw (support_snoc, none, append-nil) (x.sums c);
  }
    where
      none : entry s a ≡ false
      none = not_one (entry s a) (λ e. let l : a < a = each_member (λ q. q < a) h (x.only a e) in omega arith)

  -- the unit row of a point expresses its row
  pub expresses_unit : (qs : List ℕ) (a : ℕ) → Each (λ q. q < a) qs → Expresses row (qs ++ (a ∷ [])) (unit a) (row a)
  unfolding chosen total
  expresses_unit qs a h = record {
    only = λ q e. at q e (ℕ_discrete a q);
    sums = λ c. rw (support_snoc, entry_unit, support_none (unit a) qs others) (simp (entry_add, xor_false));
  }
    where
      others : Each (λ q. entry (unit a) q ≡ false) qs
      others = each_map (λ q l. entry_unit_other a q (omega arith)) qs h

      at : (q : ℕ) → entry (unit a) q ≡ true → Dec (a ≡ q) → Memᴰ q (qs ++ (a ∷ []))
      at q e (yes p) = Memᴰ.append_right qs (Memᴰ.head (sym p))
      at q e (no ne) = absurd (false≢true (sym (entry_unit_other a q ne) ∙ e))

  -- totals chosen alike from combinations and from what they express
  pub expresses_total : (qs : List ℕ) (ss vs : List Row) → Paired (Expresses row qs) ss vs
      → (c : Choice) → Expresses row qs (total (chosen c ss)) (total (chosen c vs))
  unfolding chosen total
  expresses_total qs ss vs ps [] = expresses_none qs
  expresses_total qs [] [] ps (b ∷ c) = expresses_none qs
  expresses_total qs [] (v ∷ vs) ps (b ∷ c) = absurd ps
  expresses_total qs (s ∷ ss) [] ps (b ∷ c) = absurd ps
  expresses_total qs (s ∷ ss) (v ∷ vs) ps (true ∷ c) = expresses_add ps.0 (expresses_total qs ss vs ps.1 c)
  expresses_total qs (s ∷ ss) (v ∷ vs) ps (false ∷ c) = expresses_total qs ss vs ps.1 c

  -- values that are all zero
  all_zero : (f : ℕ → Bool) (qs : List ℕ) → map f qs ≡ replicate (length (map row qs)) false → Each (λ q. f q ≡ false) qs
  all_zero f [] e = tt
  all_zero f (q ∷ qs) e = (cc, all_zero f qs (cc))

  -- where the rows of the points are independent, a row is expressed in one way
  pub expresses_unique : {qs : List ℕ} → Independent (map row qs) → {s t v : Row} → Expresses row qs s v → Expresses row qs t v → Same s t
  expresses_unique {qs} ind {s} {t} {v} x y = (same_zero s t).1 (λ q. not_one (entry u q) (λ e. false≢true (sym (zero_at q (z.only q e)) ∙ e)))
    where
      u : Row
      u = add s t

      z : Expresses row qs u (add v v)
      z = expresses_add x y

      values : map (entry u) qs ≡ replicate (length (map row qs)) false
      values = ind (map (entry u) qs) (length-map qs (entry u) ∙ sym (length-map qs row))
          (λ c. sym (total_support u qs c) ∙ z.sums c ∙ simp (entry_add, bits))

      zero_at : (q : ℕ) → Memᴰ q qs → entry u q ≡ false
      zero_at q = each_member (λ p. entry u p ≡ false) (all_zero (entry u) qs values)
