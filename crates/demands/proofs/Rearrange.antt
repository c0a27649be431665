-- What is promised of Rearrange holds.
--   accepts_both   lent a filter and a wiring, the code accepts, and leaves both masks rearranged
--   moved_point    there is a point where there was one
--   any_wiring     each sentence of what is promised
use mathlib.Core.Path.{◌≡◌, refl, sym, ap, ap₂, subst, ◌∙◌}
use mathlib.Core.Logic.{◌↔◌, ◌≢◌, ◌⊎◌, inl, inr}
use mathlib.Core.Bool.{true}
use mathlib.Core.List.{List}
use Prim.Native.Nat.{ℕ, ◌-◌, ◌≤◌, ◌<◌}
use native.Mathlib.Omega.{arith}
use lib.ListN.{length, get_or}
use lib.Pow.{pow_mono}
use lib.Seq.{ext_get_or}
use Rattle.std.specs.Prelude.{Result, Ok}
use Rattle.refusal.specs.Verdict.{Verdict}
use Rattle.refusal.specs.declared.Refusal.{Refusal}
use Rattle.cube.specs.NumberLists.{lists, Inside}
use Rattle.cube.specs.Cube.{size, taps}
use Rattle.cube.specs.Mask.{well_formed, member, points, HasPoint, mask}
use Rattle.cube.proofs.Taps.{taps_range}
use Rattle.cube.proofs.Masks.{formed_says, has_point_says, points_inside}
use Rattle.cube.proofs.MaskOf.{length_mask, mask_well_formed}
use Rattle.cube.proofs.Listed.{some_length, lists_member}
use Rattle.order.specs.Order.{Graded}
use Rattle.order.proofs.BuiltIn.{graded_is_graded}
use Rattle.refusal.specs.Rule.{FirstBroken}
use Rattle.refusal.specs.Outcome.{accepted, left_by}
use Rattle.refusal.proofs.Outcomes.{accepted_by}
use Rattle.filter.specs.Filter.{Filter}
use Rattle.filter.specs.Part.{part}
use Rattle.filter.specs.Sides.{Sides}
use Rattle.filter.proofs.Filters.{few_taps}
use Rattle.filter.proofs.PartPoints.{part_inside}
use Rattle.matrix.specs.Matrix.{rank_of}
use Rattle.matrix.specs.declared.rank.Ranked.{Ranked}
use Rattle.matrix.specs.Rank.{Ranking, ranking_of, rank_outcome, RankContract}
use Rattle.matrix.proofs.RankOf.{rank_accepts}
use Rattle.matrix.proofs.KeptMask.{points_lists}
use Rattle.immunity.specs.Judgement.{judged}
use Rattle.immunity.proofs.PartPoints.{part_rising}
use Rattle.immunity.proofs.SameJudged.{same_judged}
use Rattle.judge.specs.declared.JudgeAnswer.{JudgeAnswer}
use Rattle.judge.specs.Judge.{judge_outcome, outcome_of as judge_outcome_of, JudgeContract}
use Rattle.judge.proofs.Passed.{judge_accepts}
use Rattle.wiring.specs.Wiring.{Wiring, old_point, rewired, inverse, identity}
use Rattle.rearrange.specs.Rearrange.{Rearranged, rearranged, rearrange_outcome}
use Rattle.wiring.proofs.Wirings.{inverse_wiring, inverse_entry, inverse_twice, moves}
use Rattle.wiring.proofs.Rewired.{rewired_long, rewired_formed, rewired_byte, unmoved, restored}
use Rattle.wiring.proofs.Lengths.{set_count, part_count}
use Rattle.wiring.proofs.Tested.{wiring_each}
use Rattle.wiring.proofs.OldTaps.{old_taps, old_only, identity_at, identity_wiring, identity_old}
use Rattle.rearrange.proofs.Answers.{rearrange_accepted, accepts_wiring}
use Rattle.demands.specs.Rearrange.{rearrange_rules, FilterOf, Rearranges, OldPoint, RankedAlike, JudgedAlike, AnyWiring}
use Rattle.demands.proofs.Refusals.{rearrange_refuses}
use Rattle.demands.proofs.RearrangedRanks.{rank_of_set, part_rank, rearranged_ranks}

-- lent a filter and a wiring, the code accepts, and leaves both masks rearranged
pub accepts_both : (n : ℕ) (ts s s' f f' : List ℕ) (r : Verdict) → Rearranges n ts s s' f f' r → Filter n s f → Wiring n ts
    → (r ≡ Ok tt) × (s' ≡ rewired n ts s) × (f' ≡ rewired n ts f)
accepts_both n ts s s' f f' r c h w =
    let e : rearrange_outcome s f n ts ≡ accepted (rearranged n ts s f) = accepts_wiring n s f ts h w in (
      (accepted_by _ r (c.answers ∙ e)).1,
      c.leaves_set ∙ ap (λ y. left_by y s (λ (z : Rearranged). z.set)) e,
      c.leaves_table ∙ ap (λ y. left_by y f (λ (z : Rearranged). z.table)) e,
    )

-- what holds of each filter, each wiring and both masks rearranged holds of what the code leaves
of_accepted : (P : (n : ℕ) (ts s s' f f' : List ℕ) → Type 0)
    → ((n : ℕ) (ts s f : List ℕ) → Filter n s f → Wiring n ts → P n ts s (rewired n ts s) f (rewired n ts f))
    → (n : ℕ) (ts s s' f f' : List ℕ) → Rearranges n ts s s' f f' (Ok tt) → P n ts s s' f f'
of_accepted P h n ts s s' f f' c =
    let (filter, wiring, is) = rearrange_accepted n s f ts (record { set = s'; table = f' }) (sym c.answers) in
    subst (λ (x : Rearranged). P n ts s x.set f x.table) is (h n ts s f filter wiring)

-- what is rearranged of a filter is one
rearranged_filter : {n : ℕ} {s f : List ℕ} (ts : List ℕ) → Filter n s f → Filter n (rewired n ts s) (rewired n ts f)
rearranged_filter {n} {s} {f} ts h = record {
  set_long = rewired_long n ts s;
  table_long = rewired_long n ts f;
  tapped = h.tapped;
  set_formed = rewired_formed n ts s;
  table_formed = rewired_formed n ts f;
}

-- what obeys the rules is a filter
filter_says : (n : ℕ) (s f : List ℕ) → FilterOf n s f ↔ Filter n s f
filter_says n s f = (
  λ (set, table, tapped, set_formed, table_formed). record {
    set_long = set;
    table_long = table;
    tapped = (taps_range n).1 tapped;
    set_formed = (formed_says n s).1 set_formed;
    table_formed = (formed_says n f).1 table_formed;
  },
  λ h. (h.set_long, h.table_long, (taps_range n).0 h.tapped, (formed_says n s).0 h.set_formed, (formed_says n f).0 h.table_formed),
)

-- a rule of another number is not the broken one
holds : {P Q : Type 0} {k m : ℕ} → k ≢ m → ((¬ P) × (k ≡ m)) ⊎ (P × Q) → P × Q
holds other x = elim x [ inl b ↦ absurd (other b.1) | inr b ↦ b ]

-- 14 is of a filter with what is no wiring
broken_14 : (n : ℕ) (s f ts : List ℕ) → FirstBroken (rearrange_rules s f n ts) 14 ↔ (FilterOf n s f × (¬ Wiring n ts))
broken_14 n s f ts = (
  λ x.
      let (set, x₁) = holds (λ e. omega arith) x in
      let (table, x₂) = holds (λ e. omega arith) x₁ in
      let (tapped, x₃) = holds (λ e. omega arith) x₂ in
      let (set_formed, x₄) = holds (λ e. omega arith) x₃ in
      let (table_formed, x₅) = holds (λ e. omega arith) x₄ in
      ((set, table, tapped, set_formed, table_formed), elim x₅ [ inl b ↦ b.0 | inr b ↦ absurd b.1 ]),
  λ ((set, table, tapped, set_formed, table_formed), none). inr (set, inr (table, inr (tapped, inr (set_formed, inr (table_formed, inl (none, refl)))))),
)

module _ (n : ℕ) (ts s f : List ℕ) (h : Filter n s f) (w : Wiring n ts) where
  small : n ≤ 9
  small = few_taps n s f h

  -- at each new point the bytes of its old one
  moved_bytes : (a p : ℕ) → a < size n → OldPoint n ts a p → (get_or (rewired n ts s) a 0 ≡ get_or s p 0) × (get_or (rewired n ts f) a 0 ≡ get_or f p 0)
  moved_bytes a p l old =
      let is : p ≡ old_point n ts a = old_only w a p old.inside old.taps in (
        rewired_byte n ts s small h.set_formed a l ∙ ap (λ q. get_or s q 0) (sym is),
        rewired_byte n ts f small h.table_formed a l ∙ ap (λ q. get_or f q 0) (sym is),
      )

  -- there is a point where there was one
  pub moved_point : HasPoint (rewired n ts s) ↔ HasPoint s
  moved_point =
      let same : length (points (rewired n ts s)) ≡ length (points s) = set_count w small s h.set_formed in (
        λ p. (has_point_says s).0 ((some_length (points s)).1 (omega (arith, same, (some_length (points (rewired n ts s))).0 ((has_point_says (rewired n ts s)).1 p)))),
        λ p. (has_point_says (rewired n ts s)).0 ((some_length (points (rewired n ts s))).1 (omega (arith, same, (some_length (points s)).0 ((has_point_says s).1 p)))),
      )

-- the inverse restores both buffers
restores : (n : ℕ) (ts s s' s'' f f' f'' : List ℕ) (r : Verdict) → Rearranges n ts s s' f f' (Ok tt)
    → Rearranges n (inverse n ts) s' s'' f' f'' r → (r ≡ Ok tt) × (s'' ≡ s) × (f'' ≡ f)
restores n ts s s' s'' f f' f'' r c = of_accepted (λ n ts s s' f f'. Rearranges n (inverse n ts) s' s'' f' f'' r → (r ≡ Ok tt) × (s'' ≡ s) × (f'' ≡ f)) back n ts s s' f f' c
  where
    back : (n : ℕ) (ts s f : List ℕ) → Filter n s f → Wiring n ts → Rearranges n (inverse n ts) (rewired n ts s) s'' (rewired n ts f) f'' r
        → (r ≡ Ok tt) × (s'' ≡ s) × (f'' ≡ f)
    back n ts s f h w c' =
        let (is, set, table) = accepts_both n (inverse n ts) (rewired n ts s) s'' (rewired n ts f) f'' r c' (rearranged_filter ts h) (inverse_wiring w) in
        let small : n ≤ 9 = few_taps n s f h in
        (is, set ∙ restored w small s h.set_long h.set_formed, table ∙ restored w small f h.table_long h.table_formed)

-- the identity changes nothing
unchanged : (n : ℕ) (s s' f f' : List ℕ) (r : Verdict) → Filter n s f → Rearranges n (identity n) s s' f f' r → (r ≡ Ok tt) × (s' ≡ s) × (f' ≡ f)
unchanged n s s' f f' r h c =
    let (is, set, table) = accepts_both n (identity n) s s' f f' r c h (identity_wiring n) in
    (is, set ∙ kept s h.set_long h.set_formed, table ∙ kept f h.table_long h.table_formed)
  where
    kept : (b : List ℕ) → length b ≡ 512 → well_formed n b ≡ true → rewired n (identity n) b ≡ b
    kept b long formed = unmoved n (identity n) b b (few_taps n s f h) long formed (λ a l. ap (member b) (identity_old n a l))

-- lent a mask that obeys the rules and buffers of the right lengths, Rank answers its rank
rank_answers : (o b : List ℕ) (n d : ℕ) (ws ws' m m' : List ℕ) (a : Result Ranked Refusal) → (length b ≡ 512) × (well_formed n b ≡ true) → taps n ≡ true → d ≤ n
    → length ws ≡ 8192 → length m ≡ 512 → RankContract (rank_outcome o b n d (length ws) (length m)) ws ws' m m' a
    → (r : Ranked) × (a ≡ Ok r) × (r.rank ≡ rank_of o n d (points b))
rank_answers o b n d ws ws' m m' a (long, formed) tapped low work kept c =
    let (r, is, e) = accepted_by (λ x. ranking_of x m') a (c.answers ∙ ap₂ (rank_outcome o b n d) work kept ∙ rank_accepts o b n d long tapped formed low) in
    (r, is, ap (λ (y : Ranking). y.rank) e)

-- masks that obey the rules and have the same rank at each degree are ranked alike
ranked_alike : (o : List ℕ) (n : ℕ) (b b' : List ℕ) → taps n ≡ true → (length b ≡ 512) × (well_formed n b ≡ true) → (length b' ≡ 512) × (well_formed n b' ≡ true)
    → ((d : ℕ) → rank_of o n d (points b) ≡ rank_of o n d (points b')) → RankedAlike o n b b'
ranked_alike o n b b' tapped obeys obeys' same d ws ws' m m' v v' l l' a q low work work' kept kept' c c' =
    let (x, is, e) = rank_answers o b n d ws ws' m m' a obeys tapped low work kept c in
    let (y, is', e') = rank_answers o b' n d v v' l l' q obeys' tapped low work' kept' c' in
    (x, y, is, is', e ∙ same d ∙ sym e')

-- lent a filter and buffers of the right lengths, Judge answers its judgement
judge_answers : (o : List ℕ) (n : ℕ) (s f ws ws' : List ℕ) (w w' : Sides (List ℕ)) (m m' : List ℕ) (a : Result JudgeAnswer Refusal) → Filter n s f
    → length ws ≡ 8192 → length w.one ≡ 512 → length w.zero ≡ 512 → length m ≡ 512
    → JudgeContract (judge_outcome o s f n (length ws) (length w.one) (length w.zero) (length m)) ws ws' w w' m m' a → judge_outcome_of a w' m' ≡ accepted (judged o n s f)
judge_answers o n s f ws ws' w w' m m' a h work one zero kept c =
    c.answers ∙ ap₂ (λ x y. judge_outcome o s f n x y (length w.zero) (length m)) work one ∙ ap₂ (judge_outcome o s f n 8192 512) zero kept ∙ judge_accepts o n s f h

module _ (n : ℕ) (side : ℕ) (s f : List ℕ) (h : Filter n s f) where
  -- the points of a part
  inside : Inside (size n) (part side s f)
  inside = part_inside side (size n) s f (points_inside n s h.set_formed)

  -- the mask of a part obeys the rules, and marks its points
  part_mask : (length (mask (lists (part side s f))) ≡ 512) × (well_formed n (mask (lists (part side s f))) ≡ true)
  part_mask = (length_mask (lists (part side s f)), mask_well_formed n (lists (part side s f)) (λ v e. inside v ((lists_member (part side s f) v).0 e)))

  part_marked : points (mask (lists (part side s f))) ≡ part side s f
  part_marked = points_lists (part side s f) (part_rising side s f) (λ u i. omega (arith, inside u i, pow_mono (few_taps n s f h)))

-- each sentence of what is promised
pub any_wiring : AnyWiring
any_wiring = record {
  refuses = rearrange_refuses;
  answers = λ n ts s s' f f' r k c. rw c.answers (rearrange_refuses n s f ts k);
  accepts = λ n ts s s' f f' r c. (
    λ e. of_accepted (λ n ts s s' f f'. FilterOf n s f × Wiring n ts) (λ n ts s f h w. ((filter_says n s f).1 h, w)) n ts s s' f f' (subst (Rearranges n ts s s' f f') e c),
    λ (h, w). (accepts_both n ts s s' f f' r c ((filter_says n s f).0 h) w).0,
  );
  no_wiring = λ n ts s s' f f' r c. rw c.answers (let (to, back) = broken_14 n s f ts in (
    λ e. to ((rearrange_refuses n s f ts 14).0 e),
    λ x. (rearrange_refuses n s f ts 14).1 (back x),
  ));
  named_once = wiring_each;
  tap_bit = λ n t a. refl;
  one_old_point = λ n ts w a. (
    old_point n ts a,
    record { inside = (moves w).inside a; taps = old_taps w a },
    λ q old. old_only w a q old.inside old.taps,
  );
  moved = of_accepted (λ n ts s s' f f'. (a p : ℕ) → a < size n → OldPoint n ts a p → (get_or s' a 0 ≡ get_or s p 0) × (get_or f' a 0 ≡ get_or f p 0)) moved_bytes;
  filter = of_accepted (λ n ts s s' f f'. FilterOf n s' f') (λ n ts s f h w. (filter_says n (rewired n ts s) (rewired n ts f)).1 (rearranged_filter ts h));
  count = of_accepted (λ n ts s s' f f'. length (points s') ≡ length (points s)) (λ n ts s f h w. set_count w (few_taps n s f h) s h.set_formed);
  part_count = of_accepted (λ n ts s s' f f'. (side : ℕ) → length (part side s' f') ≡ length (part side s f))
      (λ n ts s f h w. part_count w (few_taps n s f h) s h.set_formed f h.table_formed);
  inverse_wiring = λ n ts w. inverse_wiring w;
  inverse_entry = λ n ts w i t l e. let q : get_or ts i 0 - 1 ≡ t = omega (arith, e) in ap (λ k. get_or (inverse n ts) k 0) (sym q) ∙ inverse_entry w i l;
  restores = restores;
  restores_inverse = λ n ts s s' s'' f f' f'' r w c c'.
      restores n (inverse n ts) s s' s'' f f' f'' r c (subst (λ us. Rearranges n us s' s'' f' f'' r) (sym (inverse_twice w)) c');
  identity_entry = λ n ts. (
    λ e. rw e ((identity_wiring n).long, identity_at n),
    λ (long, own). ext_get_or 0 ts (identity n) (long ∙ sym (identity_wiring n).long) (λ i l. own i (omega (arith, long)) ∙ sym (identity_at n i (omega (arith, long)))),
  );
  unchanged = λ n s s' f f' r h. unchanged n s s' f f' r ((filter_says n s f).0 h);
  built_in = graded_is_graded;
  rank_of_set = of_accepted (λ n ts s s' f f'. (o : List ℕ) → Graded o → RankedAlike o n s s') (λ n ts s f h w o g.
      ranked_alike o n s (rewired n ts s) h.tapped (h.set_long, h.set_formed) (rewired_long n ts s, rewired_formed n ts s)
      (λ d. sym (rank_of_set w (few_taps n s f h) g s h.set_formed d)));
  table_rank = of_accepted (λ n ts s s' f f'. (o : List ℕ) → Graded o → RankedAlike o n f f') (λ n ts s f h w o g.
      ranked_alike o n f (rewired n ts f) h.tapped (h.table_long, h.table_formed) (rewired_long n ts f, rewired_formed n ts f)
      (λ d. sym (rank_of_set w (few_taps n s f h) g f h.table_formed d)));
  part_rank = of_accepted (λ n ts s s' f f'. (o : List ℕ) → Graded o → (side : ℕ) → RankedAlike o n (mask (lists (part side s f))) (mask (lists (part side s' f'))))
      (λ n ts s f h w o g side.
      let h' : Filter n (rewired n ts s) (rewired n ts f) = rearranged_filter ts h in
      ranked_alike o n (mask (lists (part side s f))) (mask (lists (part side (rewired n ts s) (rewired n ts f)))) h.tapped
      (part_mask n side s f h) (part_mask n side (rewired n ts s) (rewired n ts f) h')
      (λ d.
      ap (rank_of o n d) (part_marked n side s f h) ∙ sym (part_rank w (few_taps n s f h) g s f h.set_formed h.table_formed side d)
      ∙ ap (rank_of o n d) (sym (part_marked n side (rewired n ts s) (rewired n ts f) h'))));
  judged = of_accepted (λ n ts s s' f f'. (o : List ℕ) → Graded o → JudgedAlike o n s s' f f')
      (λ n ts s f h w o g ws ws' v v' x x' y y' m m' l l' a q l₁ l₂ l₃ l₄ l₅ l₆ l₇ l₈ c c'. (
        judged o n s f,
        judged o n (rewired n ts s) (rewired n ts f),
        judge_answers o n s f ws ws' x x' m m' a h l₁ l₂ l₃ l₄ c,
        judge_answers o n (rewired n ts s) (rewired n ts f) v v' y y' l l' q (rearranged_filter ts h) l₅ l₆ l₇ l₈ c',
        same_judged (rearranged_ranks w (few_taps n s f h) g s f h.set_formed h.table_formed),
      ));
}
