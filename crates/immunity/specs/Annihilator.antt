-- Annihilators on a set, the polynomials that cancel f, or f + 1, on S: docs/SPECIFICATION.md, 'Words'.
--   Annihilator n p ps ss    p is zero on each of the points ps, and one somewhere on the points ss
--   LowestDegree n ps ss d   d is the lowest degree of such a polynomial
use Rattle.std.specs.Prelude.{◌≡◌, true, false, ℕ, ◌≤◌}
use mathlib.Core.List.{List, Memᴰ}
use Rattle.gf2.specs.Vector.{Each}
use Rattle.polynomial.specs.Polynomial.{Polynomial, value, HasDegree}

-- p is zero on each point of ps, and one at a point of ss
pub record Annihilator (n : ℕ) (p : Polynomial) (ps ss : List ℕ) : Type 0 where
  pub zero : Each (λ a. value n p a ≡ false) ps
  pub point : ℕ
  pub inside : Memᴰ point ss
  pub one : value n p point ≡ true

-- d is the lowest degree of a polynomial that is zero on each point of ps, and one at a point of ss
pub record LowestDegree (n : ℕ) (ps ss : List ℕ) (d : ℕ) : Type 0 where
  -- there is one of that degree,
  pub polynomial : Polynomial
  pub annihilates : Annihilator n polynomial ps ss
  pub has_degree : HasDegree n polynomial d
  -- and each such polynomial has at least that degree
  pub least : (e : ℕ) (p : Polynomial) → Annihilator n p ps ss → HasDegree n p e → d ≤ e
