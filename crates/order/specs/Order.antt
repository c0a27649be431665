-- Orders of the 512 exponents.
--   Graded o          o lists each exponent below 512 once, and weights never fall along it
--   is_column n d u   the exponent u is one of n taps and weighs at most d
--   columns o n d     these exponents, in the order o
use Rattle.std.specs.Prelude.{◌≡◌, Bool, ◌&&◌, List, ℕ, ◌<◌, ◌≤◌, ltb, leb, length, get_or}
use Rattle.cube.specs.NumberLists.{select}
use Rattle.cube.specs.Cube.{size, weight}

-- each exponent once, and weights never fall
pub record Graded (o : List ℕ) : Type 0 where
  pub long : length o ≡ 512
  pub inside : (i : ℕ) → i < 512 → get_or o i 0 < 512
  pub once : (i j : ℕ) → i < 512 → j < 512 → get_or o i 0 ≡ get_or o j 0 → i ≡ j
  pub rising : (i j : ℕ) → i ≤ j → j < 512 → weight (get_or o i 0) ≤ weight (get_or o j 0)

-- an exponent of n taps that weighs at most d
abbrev pub is_column : ℕ → ℕ → ℕ → Bool
is_column n d u = ltb u (size n) && leb (weight u) d

-- the entries below N, then those of weight at most d
abbrev pub columns : List ℕ → ℕ → ℕ → List ℕ
columns o n d = select (λ u. leb (weight u) d) (select (λ u. ltb u (size n)) o)
