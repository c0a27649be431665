-- The sentences on ranks and judgements hold.
--   judgement_words   each of them
use mathlib.Core.Path.{sym, ap, ◌∙◌}
use lib.ListN.{length}
use Rattle.judge.specs.Judge.{found}
use Rattle.refusal.proofs.Outcomes.{refused_by}
use Rattle.refusal.specs.Outcome.{left}
use Rattle.packed.specs.Packed.{zeros}
use Rattle.order.specs.BuiltIn.{graded}
use Rattle.judge.proofs.Passed.{found_accepts}
use Rattle.certify.specs.Certify.{cleared_unless}
use Rattle.demands.specs.JudgementWords.{JudgementWords}
use Rattle.demands.proofs.Refusals.{judge_refuses, certify_refuses}
use Rattle.demands.proofs.RankWords.{rank_words}
use Rattle.demands.proofs.JudgeWords.{judge_words}
use Rattle.demands.proofs.CertifyWords.{certify_words}
use Rattle.demands.proofs.HandOverWords.{hand_over_words}
use Rattle.demands.proofs.SheetWords.{sheet_words}

-- each of them
pub judgement_words : JudgementWords
judgement_words = record {
  rank = rank_words;
  judge_refuses = judge_refuses;
  judge = judge_words;
  certify_refuses = certify_refuses;
  certify = certify_words;
  hand_over = hand_over_words;
  report_accepted = λ n s f ws ws' w w' m m' a r h e. found_accepts graded n s f ws ws' w w' m m' a h _ e;
  rank_answers = λ o ws ws' m m' a k h. (λ e. sym h.answers ∙ e, λ e. h.answers ∙ e);
  judge_answers = λ o ws ws' w w' m m' a k h. (λ e. sym h.answers ∙ e, λ e. h.answers ∙ e);
  certify_answers = λ o ws ws' c c' a k h. (λ e. sym h.answers ∙ e, λ e. h.answers ∙ e);
  rank_zeros = λ o ws ws' m m' a r h e. h.leaves ∙ ap (λ x. left x ws (zeros (length ws))) e;
  judge_zeros = λ o ws ws' w w' m m' a j h e. h.leaves ∙ ap (λ x. left x ws (zeros (length ws))) e;
  certify_zeros = λ o ws ws' c c' a x h e. h.leaves ∙ ap (λ y. cleared_unless y ws) e;
  judge_number_alone = λ o ws ws' w w' m m' a k h e. refused_by (λ x. found x.report x.ranks w' m') a (h.answers ∙ e);
  sheet = sheet_words;
}
