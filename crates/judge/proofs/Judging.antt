-- What Judge answers and leaves.
--   ranks_judged      ranks found over the points of masks are those of the judgement
--   first_given       the first degree whose ranks pass a test, of the ranks found and of the definition's
--   first_reported    the first degree at which they differ is the reported one
--   side_none         where the ranks of the set and of a side's part are equal, the part has no new point
--   mask_reported     where the points with pivots in the columns of a degree are marked, the mask is that of the points kept there
--   judgement_found   what is found and reported is the judgement
--   judgement_none    where the set has no point, zeros and nothing else are the judgement
--   in_order          what is answered and left in an equal order
--   refuses           a broken check
--   accepts           no check is broken, and what is answered is the judgement
use mathlib.Core.Path.{◌≡◌, refl, sym, ap, ap₂, ◌∙◌, subst}
use mathlib.Core.Bool.{Bool, false}
use mathlib.Core.List.{List, [], map, Memᴰ}
use Rattle.std.specs.Prelude.{Option, None, Some, unwrap_or, Result, Ok, Err}
use Rattle.std.specs.List.{find}
use Prim.Native.Nat.{ℕ, ◌+◌, ◌≤◌}
use native.Mathlib.Omega.{arith}
use borrow.Author.Tests.{le-leb}
use lib.ListN.{length, get_or, replicate}
use Rattle.refusal.specs.declared.Refusal.{Refusal}
use Rattle.refusal.specs.Refusal.{number_of}
use Rattle.refusal.specs.Outcome.{Outcome, refused, accepted, Check, left, left_by}
use Rattle.refusal.specs.Verdict.{verdict}
use Rattle.refusal.proofs.Verdicts.{verdict_refuses, verdict_passes}
use Rattle.cube.specs.NumberLists.{below, lists, is_empty, Inside}
use Rattle.cube.specs.Cube.{size}
use Rattle.cube.specs.Mask.{points, byte, mask}
use Rattle.cube.proofs.Masks.{value_at, points_inside}
use Rattle.order.specs.Order.{Graded}
use Rattle.packed.specs.Packed.{zeros}
use Rattle.gf2.specs.Points.{Rising}
use Rattle.gf2.specs.Vector.{Each}
use Rattle.gf2.specs.Prefix.{points_below}
use Rattle.gf2.proofs.Each.{member_each}
use Rattle.filter.specs.Sides.{Sides, pair, of_side, both_sides}
use Rattle.filter.specs.Filter.{Filter}
use Rattle.filter.specs.Part.{both_parts}
use Rattle.filter.proofs.Filters.{few_taps}
use Rattle.filter.proofs.Sides.{of_mapped}
use Rattle.matrix.specs.Matrix.{rank_of}
use Rattle.matrix.specs.Kept.{kept_points, kept_mask}
use Rattle.matrix.proofs.FullRank.{rank_full}
use Rattle.immunity.specs.declared.Ranks.{Ranks}
use Rattle.immunity.specs.Mark.{twice_exceeds, mark_of, mark_in}
use Rattle.immunity.specs.Witness.{new_point, witness_at}
use Rattle.immunity.specs.Ranks.{no_ranks, ranks_if, parts, ranks_of, ranks_up_to, additions_of, part_differs, differ}
use Rattle.immunity.specs.Judgement.{Judgement, differs, reported, side_degree, ranks_at, side_at, additions_at, summed, witness_bytes, kept_bytes, judged}
use Rattle.immunity.proofs.First.{first_same}
use Rattle.immunity.proofs.FirstUpTo.{degree_below}
use Rattle.immunity.proofs.Given.{ranks_given, set_given}
use Rattle.immunity.proofs.Mark.{mark_exists}
use Rattle.immunity.proofs.NewPoint.{new_point_none}
use Rattle.immunity.proofs.NoPoint.{ranks_none, reported_none, no_side, side_degree_none, mark_none, additions_none, witness_none, kept_none}
use Rattle.immunity.proofs.Reported.{filter_reports}
use Rattle.degree_ranks.specs.Cut.{column_count}
use Rattle.judge.specs.declared.JudgeAnswer.{JudgeAnswer}
use Rattle.judge.specs.declared.Report.{Report}
use Rattle.judge.specs.Judge.{judge_checks, judge_outcome, judgement_of, no_point_judgement, found, JudgeContract}

module _ (o : List ℕ) (n : ℕ) (s f : List ℕ) where
  -- the judgement
  abbrev whole : Judgement
  whole = judged o n s f

  module _ {ps : Sides (List ℕ)} (p : ps ≡ both_parts s f) where
    -- ranks found over the points of masks are those of the judgement
    pub ranks_judged : {ranks : List Ranks} → ranks ≡ map (ranks_up_to o n (points s) ps) (below 10) → ranks ≡ whole.ranks
    unfolding judged ranks_at
    ranks_judged h = h ∙ ap (λ x. map (ranks_up_to o n (points s) x) (below 10)) p

    -- so are the additions
    additions_judged : {m : ℕ} → m ≡ summed (λ d. additions_of o n d (points s) ps) (below (n + 1)) → m ≡ whole.additions
    unfolding judged additions_at
    additions_judged h = h ∙ ap (λ x. summed (λ d. additions_of o n d (points s) x) (below (n + 1))) p

  -- the witness buffers for the reported degree
  bytes_judged : {ps w : Sides (List ℕ)} {k : ℕ} → ps ≡ both_parts s f → reported o n s f ≡ Some k
      → w ≡ pair (mask (witness_at o n k (points s) ps.one)) (mask (witness_at o n k (points s) ps.zero)) → w ≡ whole.witnesses
  unfolding judged witness_bytes
  bytes_judged {k = k} p r h =
      h ∙ ap (λ (x : Sides (List ℕ)). pair (mask (witness_at o n k (points s) x.one)) (mask (witness_at o n k (points s) x.zero))) p
      ∙ sym (ap (λ x. pair (witness_bytes o n s f x 1) (witness_bytes o n s f x 0)) r)

  -- the mask of kept points for the reported degree
  kept_judged : {m : List ℕ} {k : ℕ} → reported o n s f ≡ Some k → m ≡ kept_mask o n k (points s) → m ≡ whole.kept
  unfolding judged kept_bytes
  kept_judged r h = h ∙ sym (ap (kept_bytes o n s) r)

  module _ (small : n ≤ 9) {ranks : List Ranks} (given : ranks ≡ whole.ranks) where
    -- the first degree whose ranks pass a test
    pub first_given : (t : Ranks → Bool) → find (λ d. t (get_or ranks d no_ranks)) (below (n + 1)) ≡ find (λ d. t (ranks_of o n d (points s) (both_parts s f))) (below (n + 1))
    first_given t =
        ap (λ x. find (λ d. t (get_or x d no_ranks)) (below (n + 1))) given
        ∙ first_same test here (below (n + 1)) (member_each (λ d. test d ≡ here d) (below (n + 1)) (λ d m. ap t (ranks_given o n s f d ((degree_below n d).0 m) small)))
      where
        test : ℕ → Bool
        test d = t (get_or whole.ranks d no_ranks)

        here : ℕ → Bool
        here d = t (ranks_of o n d (points s) (both_parts s f))

    -- the first degree at which they differ is the reported one
    pub first_reported : find (λ d. differ (get_or ranks d no_ranks)) (below (n + 1)) ≡ reported o n s f
    unfolding reported differs
    first_reported = first_given differ

    -- each side's own degree
    degrees_judged : {ks : Sides (Option ℕ)} → ks ≡ both_sides (λ side. find (λ d. part_differs (get_or ranks d no_ranks) side) (below (n + 1))) → ks ≡ whole.degrees
    unfolding judged side_degree differs
    degrees_judged h = h ∙ ap₂ pair (first_given (λ r. part_differs r 1)) (first_given (λ r. part_differs r 0))

    -- the side there
    side_judged : {k : ℕ} → k ≤ n → reported o n s f ≡ Some k → Some (byte (part_differs (get_or ranks k no_ranks) 1)) ≡ side_at o n s f (reported o n s f)
    unfolding side_at differs
    side_judged {k} l r =
        let all = ap (λ x. get_or x k no_ranks) given ∙ ranks_given o n s f k l small in
        ap (λ (x : Ranks). Some (byte (part_differs x 1))) all ∙ sym (ap (side_at o n s f) r)

module _ (o : List ℕ) (n : ℕ) (ss : List ℕ) (ps : Sides (List ℕ)) (rising : Rising ss) (small : n ≤ 9)
    (ranks : List Ranks) (h : ranks ≡ map (ranks_up_to o n ss ps) (below 10)) (k : ℕ) (l : k ≤ n)
  where
    -- the ranks found at a degree
    ranks_at_lem : get_or ranks k no_ranks ≡ ranks_of o n k ss ps
    unfolding ranks_if
    ranks_at_lem = ap (λ x. get_or x k no_ranks) h ∙ value_at (ranks_up_to o n ss ps) 10 k no_ranks (omega arith) ∙ rw (le-leb k n l)

    -- where the ranks of the set and of a side's part are equal, the part has no new point
    pub side_none : (side : ℕ) → Each (λ a. Memᴰ a ss) (of_side side ps)
        → (get_or ranks k no_ranks).set ≡ of_side side (parts (get_or ranks k no_ranks)) → new_point o n k ss (of_side side ps) ≡ None
    side_none side among e = new_point_none o n k (of_side side ps) ss rising among
        (sym (ap (λ (r : Ranks). r.set) ranks_at_lem) ∙ e ∙ ap (λ (r : Ranks). of_side side (parts r)) ranks_at_lem ∙ of_mapped (rank_of o n k) ps side)

-- where the points with pivots in the columns of a degree are marked, the mask is that of the points kept there
pub mask_reported : (o : List ℕ) (n : ℕ) (pivots qs ss : List ℕ) → ((d : ℕ) → d ≤ n → points_below (column_count o n d) pivots qs ≡ kept_points o n d ss)
    → {k c : ℕ} → k ≤ n → c ≡ column_count o n k → {m : List ℕ} → m ≡ mask (lists (points_below c pivots qs)) → m ≡ kept_mask o n k ss
unfolding kept_mask
mask_reported o n pivots qs ss h {k} l e g = g ∙ ap (λ c. mask (lists (points_below c pivots qs))) e ∙ ap (λ x. mask (lists x)) (h k l)

-- judgements are equal by parts
judgement_by : {xs ys : List Ranks} {m i k j a b : Option ℕ} {c d : ℕ} {ks js : Sides (Option ℕ)} {v w : Sides (List ℕ)} {p q : List ℕ}
    → xs ≡ ys → m ≡ i → k ≡ j → a ≡ b → ks ≡ js → c ≡ d → v ≡ w → p ≡ q
    → ◌≡◌ {A = Judgement} (record { ranks = xs; mark = m; degree = k; side = a; degrees = ks; additions = c; witnesses = v; kept = p })
    (record { ranks = ys; mark = i; degree = j; side = b; degrees = js; additions = d; witnesses = w; kept = q })
judgement_by e₁ e₂ e₃ e₄ e₅ e₆ e₇ e₈ = cc

module _ {o : List ℕ} (g : Graded o) {n : ℕ} {s f : List ℕ} (filter : Filter n s f) (some-point : is_empty (points s) ≡ false) {ps : Sides (List ℕ)} (p : ps ≡ both_parts s f)
    {ranks : List Ranks} (h : ranks ≡ map (ranks_up_to o n (points s) ps) (below 10))
    {k : ℕ} (l : k ≤ n) (r : (j : ℕ) → find (λ d. differ (get_or ranks d no_ranks)) (below (n + 1)) ≡ Some j → k ≡ j)
  where
    -- at most nine taps
    small : n ≤ 9
    small = few_taps n s f filter

    -- the points of the set are points of n taps
    inside : Inside (size n) (points s)
    inside = points_inside n s filter.set_formed

    -- a degree is reported, and it is the one found
    is_reported : reported o n s f ≡ Some k
    is_reported =
        let (j, is, _) = filter_reports g n s f filter some-point in
        is ∙ ap Some (sym (r j (first_reported o n s f small (ranks_judged o n s f p h) ∙ is)))

    -- what the ranks show is the mark: at degree n the rank of the set is the number of its points
    mark_judged : mark_in ranks n ≡ mark_of o n s
    unfolding mark_of
    mark_judged =
        let given : ranks ≡ (judged o n s f).ranks = ranks_judged o n s f p h in
        let count : (get_or ranks n no_ranks).set ≡ length (points s) = ap (λ x. (get_or x n no_ranks).set) given ∙ set_given o n s f n (omega arith) small ∙ rank_full g small s inside in
        first_given o n s f small given (λ r. twice_exceeds r.set (get_or ranks n no_ranks).set)
        ∙ ap (λ c. find (λ d. twice_exceeds (rank_of o n d (points s)) c) (below (n + 1))) count

    -- there is a mark, and it is the one found
    is_mark : {m : ℕ} → m ≡ unwrap_or (mark_in ranks n) n → mark_of o n s ≡ Some m
    is_mark e = let (j, is) = mark_exists g small s inside some-point in is ∙ ap Some (sym (e ∙ ap (λ x. unwrap_or x n) (mark_judged ∙ is)))

    -- what is found and reported is the judgement
    pub judgement_found : {m additions : ℕ} {x y : Option ℕ} {w : Sides (List ℕ)} {kept : List ℕ} {report : Report}
        → report ≡ record { mark = m; degree = k; side = byte (part_differs (get_or ranks k no_ranks) 1); one = x; zero = y; additions = additions }
        → m ≡ unwrap_or (mark_in ranks n) n
        → pair x y ≡ both_sides (λ i. find (λ d. part_differs (get_or ranks d no_ranks) i) (below (n + 1)))
        → additions ≡ summed (λ d. additions_of o n d (points s) ps) (below (n + 1))
        → w ≡ pair (mask (witness_at o n k (points s) ps.one)) (mask (witness_at o n k (points s) ps.zero))
        → kept ≡ kept_mask o n k (points s)
        → judgement_of report ranks w kept ≡ judged o n s f
    unfolding judged
    judgement_found {w = w} {kept = kept} is a b c e q = ap (λ y. judgement_of y ranks w kept) is ∙ judgement_by
        (ranks_judged o n s f p h)
        (sym (is_mark a))
        (sym is_reported)
        (side_judged o n s f small (ranks_judged o n s f p h) l is_reported)
        (degrees_judged o n s f small (ranks_judged o n s f p h) b)
        (additions_judged o n s f p c)
        (bytes_judged o n s f p is_reported e)
        (kept_judged o n s f is_reported q)

-- where the set has no point, zeros and nothing else are the judgement
pub judgement_none : (o : List ℕ) (n : ℕ) (s f : List ℕ) → points s ≡ [] → {ranks : List Ranks} {w : Sides (List ℕ)} {kept : List ℕ} → ranks ≡ replicate 10 no_ranks
    → w ≡ pair (zeros 512) (zeros 512) → kept ≡ zeros 512 → no_point_judgement ranks w kept ≡ judged o n s f
unfolding judged
judgement_none o n s f empty r w m = judgement_by
    (r ∙ sym (ranks_none o n s f empty))
    (sym (mark_none o n s f empty))
    (sym (reported_none o n s f empty))
    (sym (no_side o n s f empty))
    (sym (ap₂ pair (side_degree_none o n s f empty 1) (side_degree_none o n s f empty 0)))
    (sym (additions_none o n s f empty))
    (w ∙ sym (ap₂ pair (witness_none o n s f empty 1) (witness_none o n s f empty 0)))
    (m ∙ sym (kept_none o n s f empty))

-- what an answer states has the witness buffers and the mask of kept points
found_buffers : (x : Option Report) (ranks : List Ranks) (w : Sides (List ℕ)) (m : List ℕ) → ((found x ranks w m).witnesses ≡ w) × ((found x ranks w m).kept ≡ m)
found_buffers None ranks w m = (refl, refl)
found_buffers (Some r) ranks w m = (refl, refl)

module _ (o s f : List ℕ) (n : ℕ) (ws one zero kept : List ℕ) where
  -- the checks of what is lent
  abbrev checks : List Check
  checks = judge_checks s f n (length ws) (length one) (length zero) (length kept)

  -- what Judge answers and leaves of it
  abbrev outcome : Outcome Judgement
  outcome = judge_outcome o s f n (length ws) (length one) (length zero) (length kept)

  -- the same in an equal order
  pub in_order : {o' : List ℕ} → o ≡ o' → {ws' : List ℕ} {w w' : Sides (List ℕ)} {kept' : List ℕ} {r : Result JudgeAnswer Refusal} → JudgeContract outcome ws ws' w w' kept kept' r
      → JudgeContract (judge_outcome o' s f n (length ws) (length one) (length zero) (length kept)) ws ws' w w' kept kept' r
  in_order e {ws'} {w} {w'} {kept'} {r} h = subst (λ x. JudgeContract (judge_outcome x s f n (length ws) (length one) (length zero) (length kept)) ws ws' w w' kept kept' r) e h

  -- a broken check
  pub refuses : {x : Refusal} → verdict checks ≡ Err x → JudgeContract outcome ws ws (pair one zero) (pair one zero) kept kept (Err x)
  unfolding judge_outcome
  refuses {x} e =
      let broken : outcome ≡ refused (number_of x) = verdict_refuses checks _ e in
      record {
        answers = sym broken;
        leaves = sym (ap (λ y. left y ws (zeros (length ws))) broken);
        leaves_witnesses = sym (ap (λ y. left_by y (pair one zero) (λ j. j.witnesses)) broken);
        leaves_kept = sym (ap (λ y. left_by y kept (λ j. j.kept)) broken);
      }

  -- no check is broken, and what is answered is the judgement
  pub accepts : verdict checks ≡ Ok tt → {ws' : List ℕ} {w : Sides (List ℕ)} {kept' : List ℕ} {a : JudgeAnswer} → ws' ≡ zeros (length ws)
      → found a.report a.ranks w kept' ≡ judged o n s f → JudgeContract outcome ws ws' (pair one zero) w kept kept' (Ok a)
  unfolding judge_outcome
  accepts p {w = w} {kept' = kept'} {a = a} z is =
      let passes : outcome ≡ accepted (judged o n s f) = verdict_passes checks _ p in
      let buffers = found_buffers a.report a.ranks w kept' in
      record {
        answers = ap accepted is ∙ sym passes;
        leaves = z ∙ sym (ap (λ y. left y ws (zeros (length ws))) passes);
        leaves_witnesses = sym buffers.0 ∙ ap (λ (j : Judgement). j.witnesses) is ∙ sym (ap (λ y. left_by y (pair one zero) (λ j. j.witnesses)) passes);
        leaves_kept = sym buffers.1 ∙ ap (λ (j : Judgement). j.kept) is ∙ sym (ap (λ y. left_by y kept (λ j. j.kept)) passes);
      }
