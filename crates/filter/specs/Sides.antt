-- Two things, one for each side: side 1 is f, and side 0 is f + 1.
--   Sides A          one thing for each side
--   pair x y         x for side 1, y for side 0
--   side_if b p      that of side 1, or of side 0, by a test
--   of_side side p   that of a side: side 1's for 1, else side 0's
--   exchanged p      each at the other side
--   both_sides g     what g gives for each side
use Rattle.std.specs.Prelude.{Bool, true, false, ℕ, eqb}

-- one thing for side 1, one for side 0
pub record Sides (A : Type 0) : Type 0 where
  pub one : A
  pub zero : A

-- side 1's, then side 0's
abbrev pub pair : {A : Type 0} → A → A → Sides A
pair x y = record { one = x; zero = y }

-- side 1's or side 0's
abbrev pub side_if : {A : Type 0} → Bool → Sides A → A
side_if true p = p.one
side_if false p = p.zero

-- that of a side
abbrev pub of_side : {A : Type 0} → ℕ → Sides A → A
of_side side p = side_if (eqb side 1) p

-- each at the other side
abbrev pub exchanged : {A : Type 0} → Sides A → Sides A
exchanged p = pair p.zero p.one

-- what a function of the side gives
abbrev pub both_sides : {A : Type 0} → (ℕ → A) → Sides A
both_sides g = pair (g 1) (g 0)
