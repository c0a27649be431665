-- Elimination of the kept points alone.
--   points_count   there are as many kept points as kept rows
--   Alike e e'     two eliminations keep the same rows, combinations and points: all but the additions are the same
--   again          elimination of the kept points alone keeps what elimination of all points does
use mathlib.Core.Path.{◌≡◌, refl, sym, ap, ap₂, ◌∙◌}
use mathlib.Core.Bool.{Bool, true, false}
use mathlib.Core.List.{List, [], ◌∷◌, ◌++◌}
use Prim.Native.Nat.{ℕ}
use lib.ListN.{length, length-map}
use Rattle.gf2.specs.Vector.{Row, add, total, unit, chosen}
use Rattle.gf2.specs.Elimination.{is_zero, Reduced, reduce, keep_unless, Elimination, nothing, take_point, take_points, eliminate}
use Rattle.gf2.proofs.Eliminate.{taken}
use Rattle.gf2.proofs.Kept.{eliminate_snoc}

-- the same kept rows, combinations and points
pub record Alike (e e' : Elimination) : Type 0 where
  pub kept : e.kept ≡ e'.kept
  pub combinations : e.combinations ≡ e'.combinations
  pub points : e.points ≡ e'.points

module _ (row : ℕ → Row) where
  -- there are as many kept points as kept rows
  pub points_count : (ps : List ℕ) → length (eliminate row ps).points ≡ length (eliminate row ps).kept
  points_count ps = sym (length-map (eliminate row ps).points row) ∙ (taken row ps).reduction.count

  -- one point more
  again_step : (e : Elimination) (a : ℕ) → Alike (eliminate row e.points) e → Alike (eliminate row (take_point row e a).points) (take_point row e a)
  unfolding take_point keep_unless
  again_step e a h = let (kept, combinations, points) = step (is_zero m.left) refl in record { kept = kept; combinations = combinations; points = points }
    where
      m : Reduced
      m = reduce e.kept (row a)

      sum : Row
      sum = add (unit a) (total (chosen m.added e.combinations))

      next : eliminate row (e.points ++ (a ∷ [])) ≡ take_point row (eliminate row e.points) a
      next = eliminate_snoc row e.points a

      same : reduce (eliminate row e.points).kept (row a) ≡ m
      same = ap (λ k. reduce k (row a)) h.kept

      step : (z : Bool) → is_zero m.left ≡ z
          → ((eliminate row (keep_unless z e.points a)).kept ≡ keep_unless z e.kept m.left)
          × ((eliminate row (keep_unless z e.points a)).combinations ≡ keep_unless z e.combinations sum)
          × ((eliminate row (keep_unless z e.points a)).points ≡ keep_unless z e.points a)
      step true q = (h.kept, h.combinations, h.points)
      step false q = (
        ap (λ (x : Elimination). x.kept) next
            ∙ ap₂ (λ (r : Reduced) k. keep_unless (is_zero r.left) k r.left) same h.kept
            ∙ ap (λ b. keep_unless b e.kept m.left) q,
        ap (λ (x : Elimination). x.combinations) next
            ∙ ap₂ (λ (r : Reduced) k. keep_unless (is_zero r.left) k (add (unit a) (total (chosen r.added k)))) same h.combinations
            ∙ ap (λ b. keep_unless b e.combinations sum) q,
        ap (λ (x : Elimination). x.points) next
            ∙ ap₂ (λ (r : Reduced) k. keep_unless (is_zero r.left) k a) same h.points
            ∙ ap (λ b. keep_unless b e.points a) q,
      )

  -- more points
  again_points : (e : Elimination) → Alike (eliminate row e.points) e → (ps : List ℕ) → Alike (eliminate row (take_points row e ps).points) (take_points row e ps)
  unfolding take_points
  again_points e h [] = h
  again_points e h (a ∷ ps) = again_points (take_point row e a) (again_step e a h) ps

  -- elimination of the kept points alone
  pub again : (ps : List ℕ) → Alike (eliminate row (eliminate row ps).points) (eliminate row ps)
  unfolding take_points
  again ps = again_points nothing (record { kept = refl; combinations = refl; points = refl }) ps
