-- Lists of points: docs/SPECIFICATION.md, 'Filter file'. The count, then the first point itself, then for each later
-- point its difference from the one before.
--   before p o                     a point before the points that the outcome o draws
--   point_by m prev least o f      a point below m, prev and the difference that the outcome o draws, and then the points of f
--   points_from m k prev least s   k points below m from the bytes s: the next is prev and a difference of at least `least`
--   list_by m o                    a list of points below m, whose count is what the outcome o draws
--   point_list m s                 the list that the bytes s begin with: refused by 2, 3 or 5
--   RisingFrom low m ps            the points ps rise, from low on, and are below m
--   differences prev ps            the bytes of the points ps, each as its difference from the one before, the first from prev
--   encode_list ps                 the bytes of the list ps
--   mark_drawn b o                 the bytes b, marked at the points that the outcome o draws, with the bytes that remain
use Rattle.std.specs.Prelude.{List, [], ◌∷◌, ◌++◌, ℕ, zero, suc, ◌+◌, ◌-◌, ◌≤◌, ◌<◌, leb, ltb, length}
use Rattle.refusal.specs.declared.Refusal.TheVariants.{Range}
use Rattle.refusal.specs.Outcome.{Outcome, refused, accepted, ◌otherwise◌, checked, after}
use Rattle.cube.specs.Mask.{with_ones}
use Rattle.varint.specs.Drawn.{Drawn, ◌leaving◌, draw}
use Rattle.varint.specs.Varint.{varint, encode_varint}

-- a point before those that an outcome draws
abbrev pub before : ℕ → Outcome (Drawn (List ℕ)) → Outcome (Drawn (List ℕ))
before p (refused k) = refused k
before p (accepted (ps leaving rest)) = accepted ((p ∷ ps) leaving rest)

-- a point: its difference is at least `least`, and it is below m
abbrev pub point_by : ℕ → ℕ → ℕ → Outcome (Drawn ℕ) → (ℕ → List ℕ → Outcome (Drawn (List ℕ))) → Outcome (Drawn (List ℕ))
point_by m prev least o f =
    draw o (λ v rest.
    checked (leb least v otherwise Range ∷ ltb (prev + v) m otherwise Range ∷ []) (before (prev + v) (f (prev + v) rest)))

-- k points below m: the next is prev and a difference of at least `least`, those after it differ by at least 1
unfoldable pub points_from : ℕ → ℕ → ℕ → ℕ → List ℕ → Outcome (Drawn (List ℕ))
points_from m zero prev least s = accepted ([] leaving s)
points_from m (suc k) prev least s = point_by m prev least (varint s) (λ p rest. points_from m k p 1 rest)

-- a list of points below m: its count is at most m, and its first point is any
abbrev pub list_by : ℕ → Outcome (Drawn ℕ) → Outcome (Drawn (List ℕ))
list_by m o = draw o (λ count rest. after (leb count m otherwise Range) (points_from m count 0 0 rest))

-- the count is a number, and the points follow it
unfoldable pub point_list : ℕ → List ℕ → Outcome (Drawn (List ℕ))
point_list m s = list_by m (varint s)

-- the first point is low or more, each later one is above the one before, and all are below m
abbrev pub RisingFrom : ℕ → ℕ → List ℕ → Type 0
RisingFrom low m [] = Unit {0}
RisingFrom low m (p ∷ ps) = (low ≤ p) × (p < m) × RisingFrom (p + 1) m ps

-- each point as its difference from the one before
unfoldable pub differences : ℕ → List ℕ → List ℕ
differences prev [] = []
differences prev (p ∷ ps) = encode_varint (p - prev) ++ differences p ps

-- the count, then the points
unfoldable pub encode_list : List ℕ → List ℕ
encode_list ps = encode_varint (length ps) ++ differences 0 ps

-- bytes that are marked at the points that an outcome draws
abbrev pub mark_drawn : List ℕ → Outcome (Drawn (List ℕ)) → Outcome (Drawn (List ℕ))
mark_drawn b (refused k) = refused k
mark_drawn b (accepted (ps leaving rest)) = accepted (with_ones ps b leaving rest)
