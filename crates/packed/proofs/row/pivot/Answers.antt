use mathlib.Core.Path.{◌≡◌}
use Prim.Native.Nat.{ℕ, ◌<◌}
use Rattle.std.proofs.Common.{Some, None, rules, tests, w64}
use Rattle.std.proofs.lemmas.Iterator.{YieldsList-from_slice, IsFirst-from_position}
use Rattle.std.proofs.lemmas.Nat.Bits.{bit_at-trailing_zeros}
use Rattle.std.specs.List.{AllWithin, HoldsAt}
use Rattle.std.specs.Option.{MatchOption}
use lib.ListN.{length, get_or}
use native.Mathlib.Omega.{arith}
use Rattle.packed.proofs.ZeroRows.{zero_numbers, some_number}
use Rattle.packed.proofs.Words.{pivot_columns}
use Rattle.packed.proofs.row.pivot.Goals as goal
use Rattle.packed.proofs.row.pivot.Goals.{After-position}

-- the first number with a one
first : (c : After-position)
    → MatchOption c.position.result (AllWithin (λ w. w ≡ 0) c.args.row.now 0 (length c.args.row.now))
    (λ k. (k < length c.args.row.now) × HoldsAt (λ w. 0 < w) c.args.row.now k × AllWithin (λ w. w ≡ 0) c.args.row.now 0 k)
first c =
    IsFirst-from_position c.position.new.self _ c.position.result (λ w. 0 < w) (λ w. w ≡ 0) c.position.ensures.ran
    (YieldsList-from_slice c.args.row.now cc) (λ x q k. search (rules, tests)) (λ x q k. search (rules, tests))

pub returns-in_err-k : goal.returns-in_err-k
returns-in_err-k c =
    let found : c.position.result ≡ None = c.in_err-k.was in
    let none = rw found at (first (goal.at.returns-in_err-k c).After-position) in
    rw c.from_residual.ensures (zero_numbers 8 (λ k. get_or c.args.row.now k 0) (λ k h. none k 0 (omega arith) (omega arith)))

pub returns : goal.returns
returns c =
    let k = c.in_ok-k.k in
    let found : c.position.result ≡ Some k = c.in_ok-k.was in
    let (h, one, zero) = rw found at (first (goal.at.returns c).After-position) in
    let u = λ (j : ℕ). get_or c.args.row.now j 0 in (
      pivot_columns 8 u k (omega arith) (λ j l. zero j 0 (omega arith) l) (one 0) (c.fits-row k),
      omega (arith, (bit_at-trailing_zeros w64 (u k) (one 0) (c.fits-row k)).0),
      some_number 8 u k (omega arith) (one 0) c.fits-row,
    )
