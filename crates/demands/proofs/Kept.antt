-- What is promised of kept points holds.
--   kept_words   each sentence of the mask of the points that the definition keeps
--   kept_masks   each sentence of Rank, Judge and Certify
use mathlib.Core.Path.{◌≡◌, refl, sym, ap, ap₂, ◌∙◌, subst}
use mathlib.Core.Logic.{◌≢◌}
use mathlib.Core.Bool.{Bool, true, false}
use mathlib.Core.List.{List, []}
use Prim.Native.Nat.{ℕ, ◌≤◌, ◌<◌}
use native.Mathlib.Omega.{arith}
use lib.Dec.{eqb}
use lib.ListN.{length, get_or}
use lib.Pow.{pow_mono}
use borrow.Author.Tests.{ne_eqb}
use Rattle.std.specs.Prelude.{Result, Ok, Some, None}
use Rattle.refusal.specs.declared.Refusal.{Refusal}
use Rattle.refusal.specs.declared.Refusal.TheVariants.{Length}
use Rattle.refusal.specs.Outcome.{Outcome, refused, ◌otherwise◌, after, left_by}
use Rattle.refusal.specs.Verdict.{verdict}
use Rattle.refusal.proofs.Outcomes.{accepted_by}
use Rattle.refusal.proofs.Verdicts.{checked_append, accepted_passes}
use Rattle.cube.specs.NumberLists.{lists, Inside}
use Rattle.cube.specs.Cube.{taps, size}
use Rattle.cube.specs.Mask.{member, byte, points, mask}
use Rattle.cube.proofs.Listed.{lists_member}
use Rattle.cube.proofs.MaskOf.{length_mask, mask_well_formed}
use Rattle.cube.proofs.Masks.{byte_small, byte_member, formed_says, points_inside}
use Rattle.cube.proofs.Taps.{taps_range}
use Rattle.order.specs.BuiltIn.{graded}
use Rattle.order.proofs.BuiltIn.{graded_is_graded}
use Rattle.gf2.specs.Points.{Rising}
use Rattle.gf2.specs.Rank.{Rank}
use Rattle.gf2.specs.Meeting.{KeptPoint}
use Rattle.point_rows.specs.Rows.{row, rows}
use Rattle.gf2.specs.Elimination.{take_points}
use Rattle.packed.specs.Packed.{zeros}
use Rattle.matrix.specs.Matrix.{eliminated, rank_of}
use Rattle.matrix.specs.Kept.{kept_mask}
use Rattle.matrix.specs.declared.rank.Ranked.{Ranked}
use Rattle.matrix.specs.Rank.{Ranking, ranking, ranking_of, rank_outcome, RankContract}
use Rattle.matrix.proofs.KeptMask.{points_lists, kept_long, kept_formed, kept_marked, kept_as_many, kept_again}
use Rattle.matrix.proofs.RankOf.{rank_of_lem, rank_accepts, passed}
use Rattle.matrix.proofs.Ranked.{Passes, rank_passed}
use Rattle.matrix.proofs.Rising.{points_rising}
use Rattle.filter.specs.Filter.{Filter}
use Rattle.filter.specs.Sides.{Sides}
use Rattle.filter.specs.Part.{part}
use Rattle.filter.proofs.Filters.{few_taps}
use Rattle.filter.proofs.PartPoints.{part_inside}
use Rattle.immunity.specs.Ranks.{no_ranks}
use Rattle.immunity.specs.Judgement.{reported, kept_bytes, Judgement, judged, set_rank}
use Rattle.immunity.proofs.Given.{set_given}
use Rattle.immunity.proofs.PartPoints.{part_rising}
use Rattle.immunity.proofs.Reported.{reported_first}
use Rattle.immunity.proofs.NoPoint.{mask_none, kept_none, none_empty}
use Rattle.judge.specs.declared.JudgeAnswer.{JudgeAnswer}
use Rattle.judge.specs.declared.Report.{Report}
use Rattle.judge.specs.Judge.{judge_outcome, judgement_of, JudgeContract}
use Rattle.judge.proofs.Passed.{judge_accepted, found_accepts}
use Rattle.immunity.specs.Certificate.{bit_of}
use Rattle.certify.specs.Certify.{certify_inputs, ranks_equal, certify_outcome, PartKept, CertifyAccepts}
use Rattle.certify.proofs.Compared.{certify_passed}
use Rattle.demands.specs.Demands.{RankAccepts}
use Rattle.demands.specs.Kept.{KeptWords, KeptMasks}
use Rattle.demands.proofs.CertifyWords.{certify_words}
use Rattle.demands.proofs.Check.{any_certificate}

module _ (n d : ℕ) (ps : List ℕ) (tapped : taps n ≡ true) (low : d ≤ n) (r : Rising ps) (inside : Inside (size n) ps) where
  -- the mask of the definition
  abbrev m : List ℕ
  m = kept_mask graded n d ps

  -- at most nine taps
  few : n ≤ 9
  few = ((taps_range n).0 tapped).1

  -- it is 0 where no point is kept
  elsewhere : (a : ℕ) → ¬ KeptPoint (row graded n d) ps a → get_or m a 0 ≡ 0
  elsewhere a none = sym (byte_member m a (byte_small (size n) m a (kept_formed graded n d ps few r inside))) ∙ go (member m a) refl
    where
      go : (b : Bool) → member m a ≡ b → byte b ≡ 0
      go true e = absurd (none ((kept_marked graded n d ps few r inside a).0 e))
      go false e = refl

  -- each sentence
  pub kept_words : KeptWords n d ps m
  kept_words =
      let marked = kept_marked graded n d ps few r inside in
      let (same, left) = kept_again graded n d ps few r inside in
      record {
        exactly = marked;
        elsewhere = elsewhere;
        subset = λ a e. ((marked a).0 e).0;
        long = kept_long graded n d ps;
        formed = (formed_says n m).0 (kept_formed graded n d ps few r inside);
        as_many = subst (Rank (rows graded n d ps)) (sym (kept_as_many graded n d ps few r inside)) (rank_of_lem graded n d ps);
        same_rank = (rank_of graded n d ps, subst (Rank (rows graded n d (points m))) same (rank_of_lem graded n d (points m)), rank_of_lem graded n d ps);
        again = (
          ranking graded n d (points m),
          rank_accepts graded m n d (kept_long graded n d ps) tapped (kept_formed graded n d ps few r inside) low,
          subst (Rank (rows graded n d ps)) (sym same) (rank_of_lem graded n d ps),
          left,
        );
      }

module _ (b : List ℕ) (n d : ℕ) (ws ws' m m' : List ℕ) (r : Ranked) (h : RankContract (rank_outcome graded b n d (length ws) (length m)) ws ws' m m' (Ok r)) where
  -- what Rank accepted passed its checks, and is the definition's
  rank_shown : Passes b n d (length ws) (length m) × (ranking graded n d (points b) ≡ ranking_of r m')
  rank_shown = let (checked, is) = passed graded b n d (length ws) (length m) (ranking_of r m') (sym h.answers) in (rank_passed b n d (length ws) (length m) checked, is)

  -- the mask that it leaves is that of the definition
  rank_left : kept_mask graded n d (points b) ≡ m'
  rank_left = ap (λ (x : Ranking). x.kept) rank_shown.1

  -- and the rank too
  rank_answered : rank_of graded n d (points b) ≡ r.rank
  rank_answered = ap (λ (x : Ranking). x.rank) rank_shown.1

  -- each sentence of it
  rank_words : KeptWords n d (points b) m'
  rank_words = let p = rank_shown.0 in subst (KeptWords n d (points b)) rank_left (kept_words n d (points b) p.tapped p.low (points_rising b) (points_inside n b p.formed))

  -- it marks as many points as the rank
  rank_many : length (points m') ≡ r.rank
  rank_many = let p = rank_shown.0 in ap (λ x. length (points x)) (sym rank_left) ∙ kept_as_many graded n d (points b) p.few_taps (points_rising b) (points_inside n b p.formed) ∙ rank_answered

  -- lent again it has the same rank, and is left again
  rank_twice : (v v' l l' : List ℕ) (a : Result Ranked Refusal) → length v ≡ 8192 → length l ≡ 512 → RankContract (rank_outcome graded m' n d (length v) (length l)) v v' l l' a
      → (x : Ranked) × (a ≡ Ok x) × (x.rank ≡ r.rank) × (l' ≡ m')
  rank_twice v v' l l' a long-v long-l h₂ =
      let (x, is, e) = accepted_by (λ y. ranking_of y l') a (h₂.answers ∙ ap₂ (rank_outcome graded m' n d) long-v long-l ∙ accepts) in
      (x, is, ap (λ (z : Ranking). z.rank) e ∙ same.0 ∙ rank_answered, ap (λ (z : Ranking). z.kept) e ∙ same.1)
    where
      p : Passes b n d (length ws) (length m)
      p = rank_shown.0

      accepts : RankAccepts m' n d (ranking graded n d (points m'))
      accepts = subst (λ x. RankAccepts x n d (ranking graded n d (points x))) rank_left
          (rank_accepts graded (kept_mask graded n d (points b)) n d (kept_long graded n d (points b)) p.tapped (kept_formed graded n d (points b) p.few_taps (points_rising b) (points_inside n b p.formed)) p.low)

      same : (rank_of graded n d (points m') ≡ rank_of graded n d (points b)) × (kept_mask graded n d (points m') ≡ m')
      same =
          let (x, y) = kept_again graded n d (points b) p.few_taps (points_rising b) (points_inside n b p.formed) in
          (ap (λ z. rank_of graded n d (points z)) (sym rank_left) ∙ x, ap (λ z. kept_mask graded n d (points z)) (sym rank_left) ∙ y ∙ rank_left)

-- a length before one that is wrong
also_length : {A : Type 0} (x : Bool) {o : Outcome A} → o ≡ refused 1 → after (x otherwise Length) o ≡ refused 1
also_length true e = e
also_length false e = refl

-- another length of the mask is refused by 1: by Rank,
rank_short : (b : List ℕ) (n d k l : ℕ) → l ≢ 512 → rank_outcome graded b n d k l ≡ refused 1
unfolding rank_outcome
rank_short b n d k l other = also_length (eqb (length b) 512) (also_length (eqb k 8192) (rw (ne_eqb l 512 other)))

-- and by Judge
judge_short : (s f : List ℕ) (n k p q l : ℕ) → l ≢ 512 → judge_outcome graded s f n k p q l ≡ refused 1
unfolding judge_outcome
judge_short s f n k p q l other =
    also_length (eqb (length s) 512) (also_length (eqb (length f) 512) (also_length (eqb k 8192) (also_length (eqb p 512) (also_length (eqb q 512) (rw (ne_eqb l 512 other))))))

module _ (n : ℕ) (s f ws ws' : List ℕ) (w w' : Sides (List ℕ)) (m m' : List ℕ) (a : JudgeAnswer) (r : Report)
    (h : JudgeContract (judge_outcome graded s f n (length ws) (length w.one) (length w.zero) (length m)) ws ws' w w' m m' (Ok a)) (e : a.report ≡ Some r)
  where
    -- what Judge accepts is a filter, and what it answers and leaves is the definition's
    judge_shown : Filter n s f × (judged graded n s f ≡ judgement_of r a.ranks w' m')
    judge_shown = judge_accepted graded n s f _ (found_accepts graded n s f ws ws' w w' m m' a h _ e)

    -- the degree is the reported one
    degree_is : reported graded n s f ≡ Some r.degree
    unfolding judged
    degree_is = ap (λ (j : Judgement). j.degree) judge_shown.1

    -- it is at most n
    degree_low : r.degree ≤ n
    degree_low = (reported_first graded_is_graded (few_taps n s f judge_shown.0) s f r.degree degree_is).within

    -- the mask that it leaves is that of the definition at this degree
    judge_left : kept_mask graded n r.degree (points s) ≡ m'
    unfolding judged kept_bytes
    judge_left = sym (ap (kept_bytes graded n s) degree_is) ∙ ap (λ (j : Judgement). j.kept) judge_shown.1

    -- each sentence of it
    judge_words : KeptWords n r.degree (points s) m'
    judge_words =
        let filter = judge_shown.0 in
        subst (KeptWords n r.degree (points s)) judge_left (kept_words n r.degree (points s) filter.tapped degree_low (points_rising s) (points_inside n s filter.set_formed))

    -- it marks as many points as the rank of the set that Judge gives there
    judge_many : length (points m') ≡ (get_or a.ranks r.degree no_ranks).set
    judge_many =
        let (filter, same) = judge_shown in
        let small : n ≤ 9 = few_taps n s f filter in
        ap (λ x. length (points x)) (sym judge_left)
        ∙ kept_as_many graded n r.degree (points s) small (points_rising s) (points_inside n s filter.set_formed)
        ∙ sym (set_given graded n s f r.degree degree_low small)
        ∙ ap (λ j. set_rank j r.degree) same

    -- it is Rank's
    judge_ranked : (x : Ranking) × RankAccepts s n r.degree x × (x.kept ≡ m')
    judge_ranked =
        let filter = judge_shown.0 in
        (ranking graded n r.degree (points s), rank_accepts graded s n r.degree filter.set_long filter.tapped filter.set_formed degree_low, judge_left)

-- where Judge answers that there is no point, the mask that it leaves is that of the points kept at every degree: it is zeros
judge_none : (n : ℕ) (s f ws ws' : List ℕ) (w w' : Sides (List ℕ)) (m m' : List ℕ) (a : JudgeAnswer)
    → JudgeContract (judge_outcome graded s f n (length ws) (length w.one) (length w.zero) (length m)) ws ws' w w' m m' (Ok a) → a.report ≡ None
    → (m' ≡ zeros 512) × ((d : ℕ) → d ≤ n → KeptWords n d (points s) m' × ((x : Ranking) × RankAccepts s n d x × (x.kept ≡ m')))
unfolding judged kept_mask eliminated take_points
judge_none n s f ws ws' w w' m m' a h e =
    let (filter, is) = judge_accepted graded n s f _ (found_accepts graded n s f ws ws' w w' m m' a h _ e) in
    let empty : points s ≡ [] = none_empty graded_is_graded n s f filter (ap (λ (j : Judgement). j.degree) is) in
    let zero : m' ≡ zeros 512 = sym (ap (λ (j : Judgement). j.kept) is) ∙ kept_none graded n s f empty in
    let left : (d : ℕ) → kept_mask graded n d (points s) ≡ m' = λ d. ap (kept_mask graded n d) empty ∙ mask_none ∙ sym zero in (
      zero,
      λ d low. (
        subst (KeptWords n d (points s)) (left d) (kept_words n d (points s) filter.tapped low (points_rising s) (points_inside n s filter.set_formed)),
        (ranking graded n d (points s), rank_accepts graded s n d filter.set_long filter.tapped filter.set_formed low, left d),
      ),
    )

module _ (n : ℕ) (s f : List ℕ) (side d k l : ℕ) (b m : List ℕ) (checks : verdict (certify_inputs s f n side d k l) ≡ Ok tt) (parts : points b ≡ part side s f) (kept : PartKept graded n d b m) where
  -- the mask that Certify goes by is that of the part's points
  certify_left : kept_mask graded n d (part side s f) ≡ m
  certify_left = ap (kept_mask graded n d) (sym parts) ∙ sym kept

  -- each sentence of it
  certify_kept : KeptWords n d (part side s f) m
  certify_kept =
      let p = certify_passed n s f side d k l checks in
      subst (KeptWords n d (part side s f)) certify_left
      (kept_words n d (part side s f) p.filter.tapped p.low (part_rising side s f) (part_inside side (size n) s f (points_inside n s p.filter.set_formed)))

  -- it is Rank's
  certify_ranked : (x : Ranking) × RankAccepts (mask (lists (part side s f))) n d x × (x.kept ≡ m)
  certify_ranked =
      let p = certify_passed n s f side d k l checks in
      let ps : List ℕ = part side s f in
      let inside : Inside (size n) ps = part_inside side (size n) s f (points_inside n s p.filter.set_formed) in
      let same : points (mask (lists ps)) ≡ ps = points_lists ps (part_rising side s f) (λ u i. omega (arith, inside u i, pow_mono (few_taps n s f p.filter))) in
      let formed = mask_well_formed n (lists ps) (λ v e. inside v ((lists_member ps v).0 e)) in (
        ranking graded n d (points (mask (lists ps))),
        rank_accepts graded (mask (lists ps)) n d (length_mask (lists ps)) p.filter.tapped formed p.low,
        ap (kept_mask graded n d) same ∙ certify_left,
      )

-- a point that the certificate names is marked
certify_named : (n : ℕ) (s f : List ℕ) (side d : ℕ) (c b m : List ℕ) → CertifyAccepts graded n s f side d c → points b ≡ part side s f → PartKept graded n d b m
    → (a q : ℕ) → q < 512 → bit_of c a q ≡ true → member m q ≡ true
unfolding certify_outcome
certify_named n s f side d c b m e parts kept a q small one =
    let (outside, _) = any_certificate.yes_bits s f n side d c (any_certificate.written_yes s f n side d 8192 4096 c e) a q small one in
    let (checks, _) = accepted_passes (certify_inputs s f n side d 8192 4096) _ c (sym (checked_append (certify_inputs s f n side d 8192 4096) (ranks_equal graded s f n side d) _) ∙ e) in
    ((certify_kept n s f side d 8192 4096 b m checks parts kept).exactly q).1 ((certify_words n s f side d c e).named_kept a q outside small one)

-- every sentence
pub kept_masks : KeptMasks
kept_masks = record {
  rank_marks = λ b n d ws ws' m m' r h. (rank_words b n d ws ws' m m' r h, rank_many b n d ws ws' m m' r h);
  rank_again = rank_twice;
  rank_refusal = λ b n d ws ws' m m' x h. h.leaves_kept ∙ ap (λ (o : Outcome Ranking). left_by o m (λ y. y.kept)) (sym h.answers);
  rank_length = λ b n d ws ws' m m' a other h. h.answers ∙ rank_short b n d (length ws) (length m) other;
  judge_marks = λ n s f ws ws' w w' m m' a r h e. (judge_words n s f ws ws' w w' m m' a r h e, judge_many n s f ws ws' w w' m m' a r h e);
  judge_as_rank = judge_ranked;
  judge_none = judge_none;
  judge_refusal = λ n s f ws ws' w w' m m' x h. h.leaves_kept ∙ ap (λ (o : Outcome Judgement). left_by o m (λ j. j.kept)) (sym h.answers);
  judge_length = λ n s f ws ws' w w' m m' a other h. h.answers ∙ judge_short s f n (length ws) (length w.one) (length w.zero) (length m) other;
  certify_marks = certify_kept;
  certify_as_rank = certify_ranked;
  certify_names = certify_named;
}
