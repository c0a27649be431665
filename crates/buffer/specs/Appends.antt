-- Bytes written into a lent buffer.
--   Appends bs t t' a b     the buffer t becomes t': the bytes bs are written from place a on, up to place b, and all others stay
use Rattle.std.specs.Prelude.{◌≡◌, List, ◌++◌, ℕ, ◌+◌, length, take, drop}

-- what stood before place a, the bytes, and what stood from place b on
pub record Appends (bs t t' : List ℕ) (a b : ℕ) : Type 0 where
  pub buffer : t' ≡ take a t ++ bs ++ drop b t
  pub upto : b ≡ a + length bs
