-- What a filter is.
--   Filter n s f   n taps, and a set s and a table f that are lent as masks of n taps
use Rattle.std.specs.Prelude.{◌≡◌, true, List, ℕ, length}
use Rattle.cube.specs.Cube.{taps}
use Rattle.cube.specs.Mask.{well_formed}

-- from 1 to 9 taps, and two masks of 512 bytes that obey the 0/1/0 rule
pub record Filter (n : ℕ) (s f : List ℕ) : Type 0 where
  pub set_long : length s ≡ 512
  pub table_long : length f ≡ 512
  pub tapped : taps n ≡ true
  pub set_formed : well_formed n s ≡ true
  pub table_formed : well_formed n f ≡ true
