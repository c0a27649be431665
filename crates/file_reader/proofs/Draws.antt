-- What n, a point and a list come from, by the number that the bytes begin with; and a list, point by point.
--   taps_unread      there is no number
--   taps_outside     it is no number of taps
--   taps_read        it is n
--   point_unread     there is no number
--   point_outside    it is less than it may be, or its point is m or more
--   point_read       it tells the next point
--   list_unread      there is no number
--   list_outside     the count is over m
--   list_read        the count is read, and its points are left
--   points_unread    the next point is refused
--   points_read      the next point is read, and is marked at once
--   points_all       no point is left
--   by_number        these laws
use mathlib.Core.Path.{◌≡◌, refl, ap, ◌∙◌}
use mathlib.Core.Logic.{◌⊎◌, inl, inr}
use mathlib.Core.Bool.{true, false}
use mathlib.Core.List.{List}
use Prim.Native.Nat.{ℕ, zero, suc, ◌+◌, ◌-◌, ◌≤◌, ◌<◌}
use native.Mathlib.Omega.{arith}
use native.Mathlib.Decide.{dec_lt}
use lib.ListN.{set}
use borrow.Author.Tests.{lt-ltb, le-ltb, lt-leb, le-leb}
use Rattle.refusal.specs.declared.Refusal.TheVariants.{Taps, Range}
use Rattle.refusal.specs.Refusal.{number_of}
use Rattle.refusal.specs.Outcome.{Outcome, refused, accepted}
use Rattle.cube.specs.Cube.{taps}
use Rattle.cube.specs.Mask.{with_ones}
use Rattle.varint.specs.Drawn.{Drawn, ◌leaving◌}
use Rattle.varint.specs.Varint.{varint}
use Rattle.point_list.specs.PointList.{before, points_from, point_list, mark_drawn}
use Rattle.file_reader.specs.Progress.{taps_of}
use Rattle.file_reader.specs.Reader.{DrawsPoint}

module _ (s : List ℕ) where
  -- there is no number
  pub taps_unread : (k : ℕ) → varint s ≡ refused k → taps_of s ≡ refused k
  unfolding taps_of
  taps_unread k e = rw e

  module _ (v : ℕ) (rest : List ℕ) (e : varint s ≡ accepted (v leaving rest)) where
    -- it is no number of taps
    pub taps_outside : taps v ≡ false → taps_of s ≡ refused (number_of Taps)
    unfolding taps_of
    taps_outside t = rw (e, t)

    -- it is n
    pub taps_read : taps v ≡ true → taps_of s ≡ accepted (v leaving rest)
    unfolding taps_of
    taps_read t = rw (e, t)

  module _ (m prev least : ℕ) where
    -- there is no number
    pub point_unread : (k : ℕ) → varint s ≡ refused k → DrawsPoint m prev least s (refused k)
    unfolding DrawsPoint
    point_unread k e = λ f. rw e

    module _ (v : ℕ) (rest : List ℕ) (e : varint s ≡ accepted (v leaving rest)) where
      -- it is less than it may be, or its point is m or more
      pub point_outside : (v < least) ⊎ (m - prev ≤ v) → DrawsPoint m prev least s (refused (number_of Range))
      unfolding DrawsPoint
      point_outside (inl l) = λ f. rw (e, lt-leb least v l)
      point_outside (inr l) = λ f. elim (dec_lt v least) [
        | yes g ↦ rw (e, lt-leb least v g)
        | no g ↦ rw (e, le-leb least v (omega arith), le-ltb (prev + v) m (omega arith))
      ]

      -- it tells the next point
      pub point_read : least ≤ v → v < m - prev → DrawsPoint m prev least s (accepted ((prev + v) leaving rest))
      unfolding DrawsPoint
      point_read l u = λ f. rw (e, le-leb least v l, lt-ltb (prev + v) m (omega arith))

-- a point that is marked at once is as one that is drawn before the others
with_ones_before : (b : List ℕ) (p : ℕ) (o : Outcome (Drawn (List ℕ))) → mark_drawn b (before p o) ≡ mark_drawn (set b p 1) o
unfolding with_ones
with_ones_before b p (refused k) = refl
with_ones_before b p (accepted (ps leaving rest)) = refl

module _ (m : ℕ) (b s : List ℕ) where
  -- there is no number
  pub list_unread : (k : ℕ) → varint s ≡ refused k → mark_drawn b (point_list m s) ≡ refused k
  unfolding point_list
  list_unread k e = rw e

  module _ (v : ℕ) (rest : List ℕ) (e : varint s ≡ accepted (v leaving rest)) where
    -- the count is over m
    pub list_outside : m < v → mark_drawn b (point_list m s) ≡ refused (number_of Range)
    unfolding point_list
    list_outside l = rw (e, lt-leb v m l)

    -- the count is read
    pub list_read : v ≤ m → mark_drawn b (point_list m s) ≡ mark_drawn b (points_from m v 0 0 rest)
    unfolding point_list
    list_read l = rw (e, le-leb v m l)

  module _ (prev least : ℕ) where
    -- no point is left
    pub points_all : (k : ℕ) → k ≡ 0 → mark_drawn b (points_from m k prev least s) ≡ accepted (b leaving s)
    unfolding points_from with_ones
    points_all k z = rw z

    -- the next point is refused
    pub points_unread : (k r : ℕ) → 0 < k → DrawsPoint m prev least s (refused r) → mark_drawn b (points_from m k prev least s) ≡ refused r
    unfolding points_from DrawsPoint
    points_unread (suc k) r l d = ap (mark_drawn b) (d (λ p rest. points_from m k p 1 rest))
    points_unread zero r l d = absurd (omega arith)

    -- the next point is read
    pub points_read : (k j p : ℕ) (rest : List ℕ) → k ≡ suc j → DrawsPoint m prev least s (accepted (p leaving rest))
        → mark_drawn b (points_from m k prev least s) ≡ mark_drawn (set b p 1) (points_from m j p 1 rest)
    unfolding points_from DrawsPoint
    points_read k j p rest e d = rw e (ap (mark_drawn b) (d (λ q t. points_from m j q 1 t)) ∙ with_ones_before b p (points_from m j p 1 rest))

-- these laws
pub ruleset by_number = (taps_unread, taps_outside, taps_read, point_unread, point_outside, point_read, list_unread, list_outside, list_read, points_all, points_unread, points_read)
