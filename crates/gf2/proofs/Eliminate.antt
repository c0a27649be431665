-- What holds of elimination after each point.
--   Reduction rs marked kept   kept is an echelon list with the sums of rs, and marked are as many independent rows with the same sums
--   Taken row ps e             what holds of e when the points ps have been taken
--   taken_point                what holds of the points taken holds with one more
--   taken                      when elimination ends all points have been taken
use mathlib.Core.Path.{◌≡◌, refl, sym, ◌∙◌, subst}
use mathlib.Core.Bool.{Bool, true, false, true≢false}
use mathlib.Core.List.{List, [], ◌∷◌, ◌++◌, map, map-append, append-nil, append_assoc}
use Prim.Native.Nat.{ℕ, ◌+◌, ◌*◌, ◌≤◌, ◌<◌}
use native.Mathlib.Omega.{arith}
use lib.ListN.{length, length-append}
use Rattle.gf2.specs.Vector.{Row, add, total, unit, Each, Choice, chosen, SumOf}
use Rattle.gf2.specs.Rank.{Independent}
use Rattle.gf2.specs.Elimination.{is_zero, count, Echelon, Reduced, reduce, keep_unless, Elimination, nothing, take_point, take_points, eliminate}
use Rattle.gf2.specs.Points.{Rising, Expresses}
use Rattle.gf2.proofs.Bits.{bits}
use Rattle.gf2.proofs.Each.{each_map, each_append, each_chosen}
use Rattle.gf2.proofs.Paired.{Paired, paired_snoc, paired_map}
use Rattle.gf2.proofs.Dot.{entry_add}
use Rattle.gf2.proofs.Chosen.{chosen_append}
use Rattle.gf2.proofs.Sums.{sum_same, sum_zero, sum_trans, sum_longer, sums_snoc}
use Rattle.gf2.proofs.Independence.{independent_snoc}
use Rattle.gf2.proofs.Reducing.{is_zero_lem, reduce_few, reduce_total, reduce_sum, reduce_zero, reduce_echelon, echelon_independent}
use Rattle.gf2.proofs.Points.{rising_front, rising_middle, expresses_same, expresses_add, expresses_more, expresses_unit, expresses_total}

-- kept is an echelon list with the sums of rs, and marked are as many independent rows with the same sums
pub record Reduction (rs marked kept : List Row) : Type 0 where
  pub echelon : Echelon kept
  pub independent : Independent marked
  pub count : length marked ≡ length kept
  pub kept_sums : Each (SumOf marked) kept
  pub marked_sums : Each (SumOf rs) marked
  pub row_sums : Each (SumOf kept) rs

-- one more row of which nothing is left
reduction_old : {rs marked kept : List Row} → Reduction rs marked kept → (v : Row) → SumOf kept v → Reduction (rs ++ (v ∷ [])) marked kept
reduction_old {rs} {marked} {kept} b v s = record {
  echelon = b.echelon;
  independent = b.independent;
  count = b.count;
  kept_sums = b.kept_sums;
  marked_sums = each_map (λ r. sum_longer rs (v ∷ [])) marked b.marked_sums;
  row_sums = each_append (SumOf kept) rs (v ∷ []) b.row_sums (s, tt);
}

-- one more row of which something is left
reduction_new : {rs marked kept : List Row} → Reduction rs marked kept → (v : Row) → is_zero (reduce kept v).left ≡ false
    → Reduction (rs ++ (v ∷ [])) (marked ++ (v ∷ [])) (kept ++ ((reduce kept v).left ∷ []))
reduction_new {rs} {marked} {kept} b v some = record {
  echelon = reduce_echelon kept b.echelon v some;
  independent = independent_snoc marked b.independent v new;
  count = simp (length-append, b.count);
  kept_sums = sums_snoc marked kept v w b.kept_sums (sum_trans b.kept_sums (reduce_sum kept v));
  marked_sums = sums_snoc rs marked v v b.marked_sums (sum_zero (λ c. simp (entry_add, bits)));
  row_sums = sums_snoc kept rs w v b.row_sums (sum_same (λ c. simp (entry_add, bits)) (reduce_sum kept v));
}
  where
    w : Row
    w = (reduce kept v).left

    new : ¬ SumOf marked v
    new s = true≢false (sym ((is_zero_lem w).1 ((reduce_zero kept b.echelon v).1 (sum_trans b.row_sums (sum_trans b.marked_sums s)))) ∙ some)

-- what holds of e when the points ps have been taken
pub record Taken (row : ℕ → Row) (ps : List ℕ) (e : Elimination) : Type 0 where
  pub reduction : Reduction (map row ps) (map row e.points) e.kept
  pub choice : Choice
  pub places : length choice ≡ length ps
  pub chose : chosen choice ps ≡ e.points
  pub combinations : Rising ps → Paired (Expresses row e.points) e.combinations e.kept
  pub fewer : length e.kept ≤ length ps
  pub cost : 2 * e.additions + length e.kept * (length e.kept + 1) ≤ 2 * (length ps * length e.kept)

-- no point is taken yet
taken_nothing : (row : ℕ → Row) → Taken row [] nothing
unfolding chosen
taken_nothing row = record {
  reduction = record { echelon = tt; independent = echelon_independent [] tt; count = refl; kept_sums = tt; marked_sums = tt; row_sums = tt };
  choice = [];
  places = refl;
  chose = refl;
  combinations = λ r. tt;
  fewer = omega arith;
  cost = omega arith;
}

-- what holds of the points taken holds with one more
pub taken_point : (row : ℕ → Row) (ps : List ℕ) (e : Elimination) → Taken row ps e → (a : ℕ)
    → Taken row (ps ++ (a ∷ [])) (take_point row e a)
unfolding take_point keep_unless chosen
taken_point row ps e t a = go (is_zero m.left) refl
  where
    m : Reduced
    m = reduce e.kept (row a)

    combination : Row
    combination = add (unit a) (total (chosen m.added e.combinations))

    less : Rising (ps ++ (a ∷ [])) → Each (λ q. q < a) e.points
    less r = subst (Each (λ q. q < a)) t.chose (each_chosen (λ q. q < a) t.choice ps (rising_middle ps a [] r).0)

    old : Rising (ps ++ (a ∷ [])) → Paired (Expresses row (e.points ++ (a ∷ []))) e.combinations e.kept
    old r = paired_map (λ s v. expresses_more row e.points a (less r)) e.combinations e.kept (t.combinations (rising_front ps (a ∷ []) r))

    new : Rising (ps ++ (a ∷ [])) → Expresses row (e.points ++ (a ∷ [])) combination m.left
    new r =
        let total = expresses_total row e.points e.combinations e.kept (t.combinations (rising_front ps (a ∷ []) r)) m.added in
        expresses_same row (λ c. simp (entry_add, reduce_total e.kept (row a) c, bits))
        (expresses_add row (expresses_unit row e.points a (less r)) (expresses_more row e.points a (less r) total))

    go : (z : Bool) → is_zero m.left ≡ z → Taken row (ps ++ (a ∷ [])) (record {
      kept = keep_unless z e.kept m.left;
      combinations = keep_unless z e.combinations combination;
      points = keep_unless z e.points a;
      additions = e.additions + count m.added;
    })
    go true z = record {
      reduction = rw map-append (reduction_old t.reduction (row a) ((reduce_zero e.kept t.reduction.echelon (row a)).0 ((is_zero_lem m.left).0 z)));
      choice = t.choice ++ (false ∷ []);
      places = simp length-append (omega arith);
      chose = rw (chosen_append, t.places, append-nil) t.chose;
      combinations = λ r. t.combinations (rising_front ps (a ∷ []) r);
      fewer = simp length-append (omega arith);
      cost = simp length-append (omega (arith, reduce_few e.kept (row a)));
    }
    go false z = record {
      reduction = rw (map-append row ps, map-append row e.points) (reduction_new t.reduction (row a) z);
      choice = t.choice ++ (true ∷ []);
      places = simp length-append (omega arith);
      chose = rw (chosen_append, t.places, t.chose);
      combinations = λ r. paired_snoc (Expresses row (e.points ++ (a ∷ []))) e.combinations e.kept (old r) (new r);
      fewer = simp length-append (omega arith);
      cost = simp length-append (omega (arith, reduce_few e.kept (row a)));
    }

-- more points are taken
taken_points : (row : ℕ → Row) (ps : List ℕ) (e : Elimination) → Taken row ps e → (qs : List ℕ)
    → Taken row (ps ++ qs) (take_points row e qs)
unfolding take_points
taken_points row ps e t [] = rw append-nil t
taken_points row ps e t (a ∷ qs) = rw append_assoc at (taken_points row (ps ++ (a ∷ [])) (take_point row e a) (taken_point row ps e t a) qs)

-- when elimination ends all points have been taken
pub taken : (row : ℕ → Row) (ps : List ℕ) → Taken row ps (eliminate row ps)
taken row ps = taken_points row [] nothing (taken_nothing row) ps
