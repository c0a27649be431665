-- Bytes copied to the front of a buffer.
--   front_appended   as many bytes of a part as the buffer has room for, written from its front on
use mathlib.Core.Path.{◌≡◌, ap, ◌∙◌}
use mathlib.Core.List.{List, ◌++◌}
use Prim.Native.Nat.{ℕ, min}
use native.Mathlib.Omega.{arith}
use lib.ListN.{length, take, drop}
use lib.Seq.{length-take-le}
use Rattle.buffer.specs.Appends.{Appends}
use Rattle.exports.specs.Exported.{in_front}

-- as many bytes of a part as the buffer has room for
pub front_appended : (part copy : List ℕ) (k : ℕ) {copy' : List ℕ} {r : ℕ} → k ≡ min (length part) (length copy) → Appends (take k part) copy copy' 0 r → copy' ≡ in_front part copy
unfolding in_front
front_appended part copy k {r = r} e h =
    let end : r ≡ k = omega (arith, h.upto, length-take-le k part (omega arith)) in
    h.buffer ∙ ap (λ j. take k part ++ drop j copy) end ∙ ap (λ j. take j part ++ drop j copy) e
