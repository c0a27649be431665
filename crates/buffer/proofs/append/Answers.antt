-- The buffer is that at entry with the first i bytes written over it from `at` on (paste_turn); at the end, appends_paste.
use mathlib.Core.Path.{◌≡◌, refl, ap, ◌∙◌}
use Prim.Native.Nat.{◌+◌}
use native.Mathlib.Omega.{arith}
use lib.ListN.{length, length-set}
use lib.Seq.{paste, paste-zero}
use Rattle.buffer.proofs.Appending.{paste_turn, appends_paste}
use Rattle.buffer.proofs.append.Goals as goal

pub loop-i-init : goal.loop-i-init
loop-i-init c = (paste-zero c.args.buffer.now c.args.at c.args.bytes.now, refl)

pub loop-i-preserved : goal.loop-i-preserved
loop-i-preserved c =
    let a = c.args in (
      paste_turn a.buffer.now a.at a.bytes.now c.loop-i.buffer c.loop-i.i c.loop-i.invariant.0 c.requires (omega arith),
      length-set c.loop-i.buffer (a.at + c.loop-i.i) _ ∙ c.loop-i.invariant.1,
    )

pub returns : goal.returns
returns c =
    let a = c.args in
    let all : c.loop-i.i ≡ length a.bytes.now = omega arith in
    appends_paste a.buffer.now a.at a.bytes.now c.loop-i.buffer _ (c.loop-i.invariant.0 ∙ ap (paste a.buffer.now a.at a.bytes.now) all) refl
