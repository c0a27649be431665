use mathlib.Core.Path.{ap, ◌∙◌}
use lib.ListN.{length}
use Rattle.exports.specs.Exported.{in_front}
use Rattle.exports.proofs.ekthavrul_hand_over.Goals as goal

pub returns : goal.returns
returns c =
    record { long = ap length c.hand_over-part.ensures.answers; copied = c.copy_front.ensures ∙ ap (λ x. in_front x c.args.copy.now) c.hand_over-part.ensures.answers }
