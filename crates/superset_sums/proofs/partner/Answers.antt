use Rattle.std.proofs.Common.{◌≡◌, ℕ, zero, suc, ◌+◌, ◌/◌, ◌%◌, ◌^◌, ◌<◌, arith}
use Rattle.packed.proofs.Words.{shifted}
use Rattle.superset_sums.proofs.partner.Goals as goal

-- the place that differs in a bit that is 0 is one of the eight too
other_place : (i j : ℕ) → i < 8 → j < 3 → i / 2 ^ j % 2 ≡ 0 → i + 2 ^ j < 8
other_place i zero l h e = omega arith
other_place i (suc zero) l h e = omega arith
other_place i (suc (suc zero)) l h e = omega arith
other_place i (suc (suc (suc j))) l h e = absurd (omega arith)

pub bounds-row-i : goal.bounds-row-i
bounds-row-i c = omega (arith, shifted c.args.j (omega arith), other_place c.args.i c.args.j (omega arith) (omega arith) c.if-i-j-eq0.true)
