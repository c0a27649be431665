use mathlib.Core.Path.{◌≡◌, ap, ◌∙◌}
use Prim.Native.Nat.{◌*◌, ◌%◌, ◌^◌, ◌<◌}
use native.Mathlib.Nat.{one-mul, mod-eq_of_lt}
use native.Mathlib.Omega.{arith}
use lib.Pow.{pow-lt}
use Rattle.cube.proofs.size.Goals as goal

pub returns : goal.returns
returns c =
    let n = c.args.n in
    let h : n < 64 = omega arith in
    let e : 1 * 2 ^ n % 2 ^ 64 ≡ 2 ^ n = ap (λ x. x % 2 ^ 64) (one-mul (2 ^ n)) ∙ mod-eq_of_lt (pow-lt h) in
    (λ _. e, λ far. absurd (omega arith))
