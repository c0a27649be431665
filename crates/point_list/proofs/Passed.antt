-- The bytes of a mask's points, point after point: what a scan of the mask has passed.
--   Passed b done prev i   the bytes `done`, and those of the points of the mask b from i on, the first from prev, are those of all its points
--   passed_none            at the start there are none
--   passed_point           a point is passed
--   passed_other           a number is passed that is no point
--   passed_short           the bytes are no more than those of all points
--   passed_all             at the end they are those of all points
use mathlib.Core.Path.{◌≡◌, sym, ap, ◌∙◌}
use mathlib.Core.List.{List, [], ◌++◌, append-nil, append_assoc}
use Prim.Native.Nat.{ℕ, ◌+◌, ◌-◌, ◌≤◌, ◌<◌}
use native.Mathlib.Omega.{arith}
use lib.ListN.{length, get_or, length-append}
use Rattle.cube.specs.Mask.{points}
use Rattle.cube.proofs.Masks.{marked_from, marked_all, marked_here, marked_later, marked_none}
use Rattle.varint.specs.Varint.{encode_varint}
use Rattle.point_list.specs.PointList.{differences}

-- the bytes of the points below i, and then those of the points from i on
pub record Passed (b done : List ℕ) (prev i : ℕ) : Type 0 where
  pub inside : i ≤ length b
  pub last : prev ≤ i
  pub whole : differences 0 (points b) ≡ done ++ differences prev (marked_from b i)

module _ (b : List ℕ) where
  -- at the start there are none
  pub passed_none : Passed b [] 0 0
  passed_none = record { inside = omega arith; last = omega arith; whole = ap (differences 0) (marked_all b) }

  module _ {done : List ℕ} {prev i : ℕ} (p : Passed b done prev i) where
    -- a point is passed
    pub passed_point : i < length b → get_or b i 0 ≡ 1 → Passed b (done ++ encode_varint (i - prev)) i (i + 1)
    unfolding differences
    passed_point l e = record {
      inside = omega arith;
      last = omega arith;
      whole = p.whole ∙ ap (λ ps. done ++ differences prev ps) (marked_here b i l e)
          ∙ sym (append_assoc done (encode_varint (i - prev)) (differences i (marked_from b (i + 1))));
    }

    -- a number is passed that is no point
    pub passed_other : i < length b → (get_or b i 0 ≡ 1 → ⊥) → Passed b done prev (i + 1)
    passed_other l e = record {
      inside = omega arith;
      last = omega (arith, p.last);
      whole = p.whole ∙ ap (λ ps. done ++ differences prev ps) (marked_later b i l e);
    }

    -- the bytes are no more than those of all points
    pub passed_short : length done ≤ length (differences 0 (points b))
    passed_short = omega (arith, ap length p.whole, length-append done (differences prev (marked_from b i)))

    -- at the end they are those of all points
    pub passed_all : length b ≤ i → done ≡ differences 0 (points b)
    unfolding differences
    passed_all l = sym (p.whole ∙ ap (λ ps. done ++ differences prev ps) (marked_none b i l) ∙ append-nil done)
