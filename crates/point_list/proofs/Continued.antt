-- What bytes after those of a list change: nothing, where a number has refused it that is not 2.
--   points_continued   points
--   list_continued     a list
use mathlib.Core.Path.{refl}
use mathlib.Core.List.{List, ◌++◌}
use Prim.Native.Nat.{ℕ, zero, suc, ◌+◌}
use native.Mathlib.Omega.{arith}
use lib.Dec.{ltb, leb}
use Rattle.refusal.specs.declared.Refusal.TheVariants.{Range}
use Rattle.refusal.specs.Outcome.{Outcome, refused, accepted}
use Rattle.varint.specs.Drawn.{Drawn, ◌leaving◌}
use Rattle.varint.specs.Varint.{varint}
use Rattle.varint.proofs.Continued.{Continued, Longer, continued_draw, continued_after, varint_continued}
use Rattle.point_list.specs.PointList.{before, points_from, point_list}

-- a point before others
continued_before : (t : List ℕ) (x : ℕ) (o p : Outcome (Drawn (List ℕ))) → Continued (Longer t) o p → Continued (Longer t) (before x o) (before x p)
continued_before t x (refused k) p h = record { low = h.low; high = h.high; named = h.named; same = λ n. rw (h.same n) }
continued_before t x (accepted (ps leaving rest)) p h = rw h

-- points
points_continued : (m k prev least : ℕ) (s t : List ℕ) → Continued (Longer t) (points_from m k prev least s) (points_from m k prev least (s ++ t))
unfolding points_from
points_continued m zero prev least s t = refl
points_continued m (suc k) prev least s t = continued_draw (Longer t) t _ (varint s) (varint (s ++ t)) (varint_continued s t) (λ v rest.
    continued_after (Longer t) (leb least v) Range _ _ (omega arith) (omega arith)
    (continued_after (Longer t) (ltb (prev + v) m) Range _ _ (omega arith) (omega arith)
    (continued_before t (prev + v) (points_from m k (prev + v) 1 rest) (points_from m k (prev + v) 1 (rest ++ t)) (points_continued m k (prev + v) 1 rest t))))

-- a list
pub list_continued : (m : ℕ) (s t : List ℕ) → Continued (Longer t) (point_list m s) (point_list m (s ++ t))
unfolding point_list
list_continued m s t = continued_draw (Longer t) t _ (varint s) (varint (s ++ t)) (varint_continued s t) (λ count rest.
    continued_after (Longer t) (leb count m) Range _ _ (omega arith) (omega arith) (points_continued m count 0 0 rest t))
