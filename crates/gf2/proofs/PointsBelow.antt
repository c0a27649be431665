-- The kept points at fewer columns: those whose kept rows have their pivots there.
--   below_next   of the first pivots and points, one more of each
--   below_all    all pivots are below
--   points_cut   elimination of cut rows keeps the points whose kept rows have their pivots before the cut
use mathlib.Core.Path.{◌≡◌, refl, sym, ap, ap₂, ◌∙◌}
use mathlib.Core.Bool.{Bool, true, false, true≢false}
use mathlib.Core.List.{List, [], ◌∷◌, ◌++◌, map, map-append, append-nil}
use Prim.Native.Nat.{ℕ, ◌+◌, ◌<◌}
use native.Mathlib.Numerals.{add-one}
use native.Mathlib.Omega.{arith}
use native.Mathlib.Decide.{dec_lt}
use borrow.Author.Tests.{lt-ltb, le-ltb}
use lib.Dec.{ltb}
use lib.ListN.{length, get_or, take, length-append, length-map}
use lib.Seq.{take-suc, length-take-le}
use Rattle.gf2.specs.Vector.{Row, Each, chosen}
use Rattle.gf2.specs.Elimination.{pivot, is_zero, reduce, keep_unless, Elimination, nothing, take_point, take_points, eliminate}
use Rattle.gf2.specs.Cut.{cut}
use Rattle.gf2.specs.Prefix.{kept_to, points_below}
use Rattle.gf2.proofs.Each.{each_append}
use Rattle.gf2.proofs.Chosen.{chosen_append}
use Rattle.gf2.proofs.Prefix.{cut_zero, cut_below, cut_above, length_left, left_cut, kept_cut}
use Rattle.gf2.proofs.Steps.{pivot_zero}

-- one pivot and one point more
below_snoc : (c : ℕ) (ps qs : List ℕ) (p q : ℕ) → length qs ≡ length ps → points_below c (ps ++ (p ∷ [])) (qs ++ (q ∷ [])) ≡ points_below c ps qs ++ chosen (ltb p c ∷ []) (q ∷ [])
below_snoc c ps qs p q l =
    ap (λ b. chosen b (qs ++ (q ∷ []))) (map-append (λ x. ltb x c) ps (p ∷ []))
    ∙ chosen_append (map (λ x. ltb x c) ps) (ltb p c ∷ []) qs (q ∷ []) (length-map ps (λ x. ltb x c) ∙ sym l)

-- of the first pivots and points, one more of each
pub below_next : (c : ℕ) (ps qs : List ℕ) (j : ℕ) → j < length ps → j < length qs
    → points_below c (take (j + 1) ps) (take (j + 1) qs) ≡ points_below c (take j ps) (take j qs) ++ chosen (ltb (get_or ps j 0) c ∷ []) (get_or qs j 0 ∷ [])
below_next c ps qs j l m =
    rw (add-one j, take-suc ps j 0 l, take-suc qs j 0 m)
    (below_snoc c (take j ps) (take j qs) (get_or ps j 0) (get_or qs j 0) (length-take-le j qs (omega arith) ∙ sym (length-take-le j ps (omega arith))))

-- all pivots are below
pub below_all : (c : ℕ) (ps qs : List ℕ) → length qs ≡ length ps → Each (λ p. p < c) ps → points_below c ps qs ≡ qs
unfolding chosen
below_all c [] [] l h = refl
below_all c [] (q ∷ qs) l h = absurd (omega arith)
below_all c (p ∷ ps) [] l h = absurd (omega arith)
below_all c (p ∷ ps) (q ∷ qs) l h = rw (lt-ltb p c h.0) (ap (λ x. q ∷ x) (below_all c ps qs (omega arith) h.1))

-- a row that is not zero has its pivot before its end
pivot_inside : (v : Row) → is_zero v ≡ false → pivot v < length v
pivot_inside v e = elim (dec_lt (pivot v) (length v)) [ yes l ↦ l | no l ↦ absurd (true≢false (sym (pivot_zero v (omega arith)) ∙ e)) ]

module _ (c m : ℕ) (row : ℕ → Row) where
  -- the rows, cut
  abbrev cut_row : ℕ → Row
  cut_row a = cut c (row a)

  -- what elimination of the cut rows has found when elimination of the rows has found e
  record Cuts (e e' : Elimination) : Type 0 where
    kept : e'.kept ≡ kept_to c e.kept
    points : e'.points ≡ points_below c (map pivot e.kept) e.points
    wide : Each (λ r. length r ≡ m) e.kept
    count : length e.points ≡ length (map pivot e.kept)

  -- one point more
  cuts_step : (e e' : Elimination) (a : ℕ) → length (row a) ≡ m → Cuts e e' → Cuts (take_point row e a) (take_point cut_row e' a)
  unfolding take_point keep_unless chosen
  cuts_step e e' a long h =
      let (points, wide, count) = rest (is_zero v) refl in
      record {
        kept = ap₂ (λ k (r : Row). keep_unless (is_zero r) k r) h.kept left ∙ sym (kept_cut c e.kept v);
        points = ap₂ (λ l (r : Row). keep_unless (is_zero r) l a) h.points left ∙ points;
        wide = wide;
        count = count;
      }
    where
      v : Row
      v = (reduce e.kept (row a)).left

      left : (reduce e'.kept (cut_row a)).left ≡ cut c v
      left = ap (λ k. (reduce k (cut_row a)).left) h.kept ∙ left_cut c m e.kept (row a) h.wide long

      last : (qs : List ℕ) → is_zero v ≡ false → keep_unless (is_zero (cut c v)) qs a ≡ qs ++ chosen (ltb (pivot v) c ∷ []) (a ∷ [])
      last qs q = elim (dec_lt (pivot v) c) [
        | yes l ↦ rw (cut_below c v (pivot_inside v q) l, lt-ltb (pivot v) c l) refl
        | no l ↦ rw (cut_above c v (omega arith), le-ltb (pivot v) c (omega arith)) (sym (append-nil qs))
      ]

      rest : (z : Bool) → is_zero v ≡ z
          → (keep_unless (is_zero (cut c v)) (points_below c (map pivot e.kept) e.points) a ≡ points_below c (map pivot (keep_unless z e.kept v)) (keep_unless z e.points a))
          × Each (λ r. length r ≡ m) (keep_unless z e.kept v)
          × (length (keep_unless z e.points a) ≡ length (map pivot (keep_unless z e.kept v)))
      rest true q = (rw (cut_zero c v q) refl, h.wide, h.count)
      rest false q = (
        last (points_below c (map pivot e.kept) e.points) q
            ∙ sym (ap (λ ps. points_below c ps (e.points ++ (a ∷ []))) (map-append pivot e.kept (v ∷ [])) ∙ below_snoc c (map pivot e.kept) e.points (pivot v) a h.count),
        each_append (λ r. length r ≡ m) e.kept (v ∷ []) h.wide (length_left m e.kept (row a) h.wide long, tt),
        simp (map-append, length-append, h.count),
      )

  -- more points
  cuts_points : (e e' : Elimination) → Cuts e e' → (ps : List ℕ) → Each (λ a. length (row a) ≡ m) ps → Cuts (take_points row e ps) (take_points cut_row e' ps)
  unfolding take_points
  cuts_points e e' h [] long = h
  cuts_points e e' h (a ∷ ps) long = cuts_points (take_point row e a) (take_point cut_row e' a) (cuts_step e e' a long.0 h) ps long.1

  -- elimination of cut rows keeps the points whose kept rows have their pivots before the cut
  pub points_cut : (ps : List ℕ) → Each (λ a. length (row a) ≡ m) ps → (eliminate cut_row ps).points ≡ points_below c (map pivot (eliminate row ps).kept) (eliminate row ps).points
  unfolding kept_to chosen
  points_cut ps long = (cuts_points nothing nothing (record { kept = refl; points = refl; wide = tt; count = refl }) ps long).points
