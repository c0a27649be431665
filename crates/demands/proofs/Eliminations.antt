-- Elimination, step by step, and which points it keeps.
--   begins       nothing is kept before the first point
--   step         one point more
--   kept_just    a point is kept just if its row is no sum of rows of smaller points
--   kept_rise    the kept points rise
--   number_kept  the rank is the number kept
--   as_many      as many points are kept as rows
use mathlib.Core.Path.{◌≡◌, refl, sym, ◌∙◌, subst}
use mathlib.Core.Logic.{◌↔◌}
use mathlib.Core.List.{List, [], ◌∷◌, ◌++◌, Memᴰ}
use Prim.Native.Nat.{ℕ}
use lib.ListN.{length, length-map}
use Rattle.order.specs.BuiltIn.{graded}
use Rattle.gf2.specs.Rank.{Rank}
use Rattle.gf2.specs.Elimination.{Elimination, take_points, eliminate}
use Rattle.gf2.specs.Points.{Rising}
use Rattle.gf2.specs.Meeting.{Step, KeptPoint}
use Rattle.gf2.proofs.Rank.{rank_unique}
use Rattle.gf2.proofs.Eliminate.{taken}
use Rattle.gf2.proofs.Kept.{eliminate_snoc, kept_echelon, points_rising}
use Rattle.gf2.proofs.Meeting.{take_step, kept_of}
use Rattle.point_rows.specs.Rows.{row, rows}
use Rattle.matrix.specs.Matrix.{eliminated}
use Rattle.matrix.proofs.RankOf.{rank_of_lem}

-- nothing is kept before the first point
pub begins : (n d : ℕ) → let e : Elimination = eliminated graded n d [] in (e.kept ≡ []) × (e.points ≡ []) × (e.additions ≡ 0)
unfolding eliminated take_points
begins n d = (refl, refl, refl)

-- one point more
pub step : (n d : ℕ) (ps : List ℕ) (a : ℕ) → Step (eliminated graded n d ps) (eliminated graded n d (ps ++ (a ∷ []))) a (row graded n d a)
unfolding eliminated
step n d ps a = rw (eliminate_snoc (row graded n d) ps a) (take_step (row graded n d) (eliminate (row graded n d) ps) a (kept_echelon (row graded n d) ps))

-- a point is kept just if its row is no sum of rows of smaller points
pub kept_just : (n d : ℕ) (ps : List ℕ) → Rising ps → (a : ℕ) → Memᴰ a (eliminated graded n d ps).points ↔ KeptPoint (row graded n d) ps a
unfolding eliminated
kept_just n d ps r a = kept_of (row graded n d) ps r a

-- the kept points rise
pub kept_rise : (n d : ℕ) (ps : List ℕ) → Rising ps → Rising (eliminated graded n d ps).points
unfolding eliminated
kept_rise n d ps r = points_rising (row graded n d) ps r

-- the rank is the number kept
pub number_kept : (n d : ℕ) (ps : List ℕ) (r : ℕ) → Rank (rows graded n d ps) r ↔ (r ≡ length (eliminated graded n d ps).kept)
number_kept n d ps r = (λ h. rank_unique h (rank_of_lem graded n d ps), λ e. subst (Rank (rows graded n d ps)) (sym e) (rank_of_lem graded n d ps))

-- as many points are kept as rows
pub as_many : (n d : ℕ) (ps : List ℕ) → length (eliminated graded n d ps).kept ≡ length (eliminated graded n d ps).points
unfolding eliminated
as_many n d ps = let e : Elimination = eliminate (row graded n d) ps in sym (taken (row graded n d) ps).reduction.count ∙ length-map e.points (row graded n d)
