-- As many bytes as there is room for are written from the front on (front_appended).
use native.Mathlib.Omega.{arith}
use Rattle.exports.proofs.Front.{front_appended}
use Rattle.exports.proofs.copy_front.Goals as goal

pub returns : goal.returns
returns c =
    let a = c.args in
    front_appended a.part.now a.copy.now _ (omega arith) c.append.ensures
