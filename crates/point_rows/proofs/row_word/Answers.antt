-- The columns in the word are at most 64, so that it fits.
use mathlib.Core.Path.{◌≡◌, refl, sym, ap, ap₂, ◌∙◌}
use mathlib.Core.List.{List, ◌∷◌}
use Prim.Native.Nat.{ℕ, suc, ◌+◌, ◌-◌, ◌*◌, ◌^◌, ◌<◌, ◌≤◌}
use native.Mathlib.Omega.{arith}
use lib.ListN.{length, get_or, take, drop, length-map, length-take}
use lib.Pow.{pow_mono}
use lib.Seq.{drop-cons}
use Rattle.cube.specs.Cube.{within}
use Rattle.gf2.specs.Vector.{digit}
use Rattle.packed.specs.Packed.{number}
use Rattle.packed.proofs.Packing.{number_bound}
use Rattle.point_rows.specs.Rows.{monomials}
use Rattle.point_rows.proofs.row_word.Invariants.{part}
use Rattle.point_rows.proofs.row_word.Goals as goal
use Rattle.point_rows.proofs.row_word.Goals.{In-loop-i, After-from}

-- one column more in the word
step : (xs : List ℕ) (from a i : ℕ) → from + 64 ≤ length xs → 0 < i → i ≤ 64
    → number (part xs from a (i - 1)) ≡ number (part xs from a i) * 2 + digit (within (get_or xs (from + (i - 1)) 0) a)
unfolding number
step xs from a i h p l =
    let e : 64 - (i - 1) ≡ suc (64 - i) = omega arith in
    let f : suc (from + (i - 1)) ≡ from + i = omega arith in
    ap (λ ys. number (monomials (take (64 - (i - 1)) ys) a)) (drop-cons xs (from + (i - 1)) 0 (omega arith))
    ∙ ap₂ (λ m k. number (monomials (take m (get_or xs (from + (i - 1)) 0 ∷ drop k xs)) a)) e f

-- it fits
fits : (xs : List ℕ) (from a i : ℕ) → number (part xs from a i) < 2 ^ 64
fits xs from a i =
    let few : length (part xs from a i) ≤ 64 = simp (length-map, length-take) (omega arith) in
    omega (arith, number_bound (part xs from a i), pow_mono few)

-- a turn's word
turn : (c : In-loop-i) → let a = c.args in let next = number (part a.exponents.now a.from a.a.0 (c.loop-i.i - 1)) in
    (next ≡ c.loop-i.w * 2 + digit (within (get_or a.exponents.now (a.from + (c.loop-i.i - 1)) 0) a.a.0)) × (next < 2 ^ 64)
turn c =
    let a = c.args in
    let i = c.loop-i.i in (
      step a.exponents.now a.from a.a.0 i (omega arith) (omega arith) (omega arith)
          ∙ ap (λ w. w * 2 + digit (within (get_or a.exponents.now (a.from + (i - 1)) 0) a.a.0)) (sym c.loop-i.invariant),
      fits a.exponents.now a.from a.a.0 (i - 1),
    )

-- its column
column : (c : After-from) → c.from.result ≡ digit (within (get_or c.args.exponents.now (c.args.from + (c.loop-i.i - 1)) 0) c.args.a.0)
column c = c.from.ensures ∙ ap digit (c.within.ensures ∙ ap (λ u. within u c.args.a.0) c.exponent_at.ensures)

pub loop-i-init : goal.loop-i-init
unfolding number
loop-i-init c = refl

pub overflow_mul-w : goal.overflow_mul-w
overflow_mul-w c = omega (arith, turn (goal.at.overflow_mul-w c).In-loop-i)

pub overflow_add-w : goal.overflow_add-w
overflow_add-w c = omega (arith, turn (goal.at.overflow_add-w c).In-loop-i, column (goal.at.overflow_add-w c).After-from)

pub loop-i-preserved : goal.loop-i-preserved
loop-i-preserved c = omega (arith, turn (goal.at.loop-i-preserved c).In-loop-i, column (goal.at.loop-i-preserved c).After-from)
