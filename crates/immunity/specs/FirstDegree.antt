-- First degrees, of two sides; Judgement.antt has `side_degree`.
--   smaller x y   the smaller of two degrees, of those that exist; none if neither does
use Rattle.std.specs.Prelude.{ℕ, min, Option, None, Some}

-- the smaller of those that exist, none if neither does
unfoldable pub smaller : Option ℕ → Option ℕ → Option ℕ
smaller None y = y
smaller (Some x) None = Some x
smaller (Some x) (Some y) = Some (min x y)
