-- What is promised of a set without a point holds.
--   empty_set   every sentence
use mathlib.Core.Path.{◌≡◌, refl, sym, ap, ap₂, ◌∙◌, subst, fun_ext}
use mathlib.Core.Logic.{◌↔◌, ◌≢◌, inl, inr}
use mathlib.Core.Bool.{Bool, true, false, false≢true}
use mathlib.Core.List.Memᴰ
use mathlib.Core.List.{List, [], ◌++◌, append_assoc}
use Prim.Native.Nat.{ℕ, ◌+◌, ◌^◌, ◌≤◌, ◌<◌}
use native.Mathlib.Omega.{arith}
use native.Mathlib.Decide.{dec_lt}
use lib.ListN.{length, get_or, replicate, get_or-replicate, get_or-eq_default, length-replicate}
use lib.Seq.{ext_get_or}
use Rattle.std.specs.Prelude.{Result, Ok, None, Some, Option}
use Rattle.refusal.specs.Verdict.{Verdict}
use Rattle.refusal.specs.declared.Refusal.{Refusal}
use Rattle.refusal.specs.Outcome.{Outcome, refused, accepted, left_by, left}
use Rattle.refusal.proofs.Outcomes.{accepted_answer, accepted_by, not_both, accepted_value, number_not_6, checked_not_6}
use Rattle.cube.specs.NumberLists.{up_from, below, cons_if, select, lists, is_empty}
use Rattle.cube.specs.Cube.{Taps, size}
use Rattle.cube.specs.Mask.{WellFormed, points, HasPoint, mask}
use Rattle.cube.proofs.Taps.{taps_range}
use Rattle.cube.proofs.Masks.{formed_says, point_or_none}
use Rattle.cube.proofs.MaskOf.{mask_points}
use Rattle.order.specs.BuiltIn.{graded}
use Rattle.order.proofs.BuiltIn.{graded_is_graded}
use Rattle.packed.specs.Packed.{zeros}
use Rattle.packed.proofs.Clearing.{length_zeros, zeros_at}
use Rattle.polynomial.specs.Convert.{convert_checks, convert_outcome}
use Rattle.polynomial.specs.Degree.{degree_checks, degree_outcome}
use Rattle.matrix.specs.Rank.{rank_checks, rank_outcome}
use Rattle.point_list.specs.PointList.{points_from, point_list, RisingFrom}
use Rattle.filter.specs.Sides.{Sides, pair}
use Rattle.filter.specs.Filter.{Filter}
use Rattle.filter.proofs.Sides.{of_both}
use Rattle.filter_file.specs.File.{Contents, two_lists, contents, encode, Valid}
use Rattle.varint.specs.Varint.{groups, varint}
use Rattle.filter_file.specs.Read.{read_checks, read_outcome, reading}
use Rattle.filter_file.specs.Write.{file_of, write_inputs, room_for, write_outcome, WriteAccepts}
use Rattle.filter_file.proofs.Continued.{refusal_stands}
use Rattle.filter_file.proofs.Encoded.{contents_encoded, encoded_bytes}
use Rattle.filter_file.proofs.WriteOutcome.{write_accepts}
use Rattle.immunity.specs.Ranks.{no_ranks}
use Rattle.immunity.specs.Judgement.{reported, side_degree, witness_bytes, Judgement, judged}
use Rattle.immunity.proofs.NoPoint.{ranks_none, equal_at_all, reported_none, no_side, side_degree_none, mark_none, additions_none, mask_none, witness_none, kept_none, certificate_none, annihilates_none, reported_point, none_empty}
use Rattle.judge.specs.declared.JudgeAnswer.{JudgeAnswer}
use Rattle.judge.specs.declared.Report.{Report}
use Rattle.judge.specs.Judge.{judge_checks, judge_outcome, outcome_of as judge_outcome_of, found, JudgeContract}
use Rattle.judge.proofs.Passed.{accepted_filter, judge_accepted, judge_accepts, found_judged}
use Rattle.judge.proofs.Judging.{judgement_none}
use Rattle.certify.specs.Certify.{certify_inputs, ranks_equal, certify_outcome, CertifyContract, CertifyAccepts, cleared_unless}
use Rattle.certify.proofs.Compared.{certify_accepts}
use Rattle.checker.specs.Check.{check_inputs, check_outcome, CheckContract, CheckAccepts}
use Rattle.checker.proofs.Checked.{check_passes, check_says}
use Rattle.wiring.specs.Wiring.{Wiring, rewired}
use Rattle.rearrange.specs.Rearrange.{rearrange_checks, rearrange_outcome, RearrangeContract}
use Rattle.wiring.proofs.Rewired.{rewired_long, rewired_formed}
use Rattle.text.specs.Text.{Text, ascii, digits, decimal, newline, field, labelled, joined}
use Rattle.sheet_lines.specs.Lines.{rank_line, sides_line, additions_line}
use Rattle.sheet_text.specs.Sheet.{judgement_sheet, sheet_of, sheet}
use Rattle.sheet_text.proofs.SheetAccepts.{no_point_lines}
use Rattle.demands.proofs.Rearrange.{accepts_both, moved_point}
use Rattle.demands.specs.Empty.{no_points, TableOf, no_point_file, zero_lines, no_point_sheet, NothingFound, EmptySet}
use Rattle.demands.proofs.Check.{any_certificate}
use Rattle.demands.proofs.Demand3.{demand3}
use Rattle.demands.proofs.Write.{back_read, leaves_file}

-- zeros have no point
points_none : points no_points ≡ []
unfolding zeros select cons_if up_from
points_none = refl

-- they obey the 0/1/0 rule
zeros_formed : (n : ℕ) → WellFormed n no_points
zeros_formed n = (λ a l. omega (arith, zeros_at 512 a), λ a l. zeros_at 512 a)

-- with n and a table that obey the rules they are a filter
filter_none : {n : ℕ} {f : List ℕ} → TableOf n f → Filter n no_points f
filter_none {n} {f} (tapped, long, formed) = record {
  set_long = length_zeros 512;
  table_long = long;
  tapped = (taps_range n).1 tapped;
  set_formed = (formed_says n no_points).1 (zeros_formed n);
  table_formed = (formed_says n f).1 formed;
}

-- they are the only set without a point
only_zeros : (n : ℕ) (s : List ℕ) → length s ≡ 512 → WellFormed n s → (HasPoint s → ⊥) ↔ (s ≡ no_points)
unfolding lists
only_zeros n s long formed = (
  λ h. elim (point_or_none s) [
    | inl p ↦ absurd (h p)
    | inr empty ↦ sym (mask_points n s long ((formed_says n s).1 formed)) ∙ ap (λ ps. mask (lists ps)) empty ∙ mask_none
  ],
  λ e (a, m). Memᴰ.not-nil (rw (ap points e ∙ points_none) at m),
)

module _ (n : ℕ) (ones : List ℕ) (tapped : Taps n) (rising : RisingFrom 0 (size n) ones) where
  -- what the file of no points says obeys the rules
  valid_none : Valid (no_point_file n ones)
  valid_none = record { tapped = (taps_range n).1 tapped; set = tt; table = rising }

-- Write writes the file of no points
write_none : (n : ℕ) (f : List ℕ) (m : ℕ) → TableOf n f → let file : List ℕ = encode (no_point_file n (points f)) in length file ≤ m → WriteAccepts n no_points f m file
write_none n f m h l =
    let same : file_of n no_points f ≡ encode (no_point_file n (points f)) = ap (λ ps. encode (record { n = n; set = ps; table = points f })) points_none in
    write_accepts n no_points f m (filter_none h) (omega (arith, ap length same)) ∙ ap accepted same

-- nothing is found
nothing_found : (n : ℕ) (f : List ℕ) → NothingFound (judged graded n no_points f)
unfolding judged
nothing_found n f = record {
  ranks = ranks_none graded n no_points f points_none;
  no_reported_degree = reported_none graded n no_points f points_none;
  no_side = no_side graded n no_points f points_none;
  no_own_degree = λ side l. of_both (side_degree graded n no_points f) side l ∙ side_degree_none graded n no_points f points_none side;
  no_mark = mark_none graded n no_points f points_none;
  no_kept = kept_none graded n no_points f points_none;
  no_witness = λ side l. of_both (witness_bytes graded n no_points f (reported graded n no_points f)) side l ∙ witness_none graded n no_points f points_none side;
  no_additions = additions_none graded n no_points f points_none;
}

-- Certify writes zeros
certify_none : (n : ℕ) (f : List ℕ) (side d : ℕ) → TableOf n f → side ≤ 1 → d ≤ n → CertifyAccepts graded n no_points f side d (zeros 4096)
certify_none n f side d h l m =
    certify_accepts n no_points f side d graded (filter_none h) l m (equal_at_all graded n no_points f points_none side d)
    ∙ ap accepted (certificate_none graded n no_points f points_none side d)

-- and clears its workspace
certified_leaves : (n : ℕ) (f : List ℕ) (side d : ℕ) (ws ws' c c' : List ℕ) (r : Verdict) → TableOf n f → side ≤ 1 → d ≤ n → length ws ≡ 8192 → length c ≡ 4096
    → CertifyContract (certify_outcome graded no_points f n side d (length ws) (length c)) ws ws' c c' r → (r ≡ Ok tt) × (ws' ≡ zeros 8192) × (c' ≡ zeros 4096)
certified_leaves n f side d ws ws' c c' r h l m long-ws long-c x =
    let is : certify_outcome graded no_points f n side d (length ws) (length c) ≡ accepted (zeros 4096) = rw (long-ws, long-c) (certify_none n f side d h l m) in
    ((accepted_by _ r (x.answers ∙ is)).1, x.leaves ∙ ap (λ o. cleared_unless o ws) is ∙ ap zeros long-ws, x.leaves_certificate ∙ ap (λ o. left_by o c (λ y. y)) is)

module _ (n : ℕ) (f : List ℕ) (side d : ℕ) (c : List ℕ) (h : TableOf n f) (l : side ≤ 1) (m : d ≤ n) (long : length c ≡ 4096) (small : (i : ℕ) → get_or c i 0 < 2 ^ 64) where
  -- Check says yes to zeros,
  yes_zeros : c ≡ zeros 4096 → CheckAccepts graded n no_points f side d c true
  yes_zeros e = subst (λ x. CheckAccepts graded n no_points f side d x true) (sym e) (any_certificate.written_yes no_points f n side d 8192 4096 (zeros 4096) (certify_none n f side d h l m))

  -- and to nothing else
  only_yes : CheckAccepts graded n no_points f side d c true → c ≡ zeros 4096
  only_yes e = ext_get_or 0 c (zeros 4096) (long ∙ sym (length_zeros 4096)) (λ i _.
      any_certificate.yes_others no_points f n side d c e small i (λ (inside, _). Memᴰ.not-nil (rw points_none at inside)) ∙ sym (zeros_at 4096 i))

  -- so its answer
  check_none : (b : Bool) × CheckAccepts graded n no_points f side d c b × ((b ≡ true) ↔ (c ≡ zeros 4096))
  check_none =
      let says = check_says graded no_points f n side d c (check_passes no_points f n side d (length c) (filter_none h) l m long) in
      (_, says, (λ yes. only_yes (says ∙ ap accepted yes), λ e. accepted_value (sym says ∙ yes_zeros e)))

-- and what the code says
check_answers : (n : ℕ) (f : List ℕ) (side d : ℕ) (c : List ℕ) (r : Result Bool Refusal) → TableOf n f → side ≤ 1 → d ≤ n → length c ≡ 4096 → ((i : ℕ) → get_or c i 0 < 2 ^ 64)
    → CheckContract graded no_points f n side d c r → ((r ≡ Ok true) ↔ (c ≡ zeros 4096)) × ((r ≡ Ok false) ↔ (c ≢ zeros 4096))
check_answers n f side d c r h l m long small k =
    let (b, says, exact) = check_none n f side d c h l m long small in
    rw (accepted_answer r (k.answers ∙ says)) (go b exact)
  where
    go : (b : Bool) → ((b ≡ true) ↔ (c ≡ zeros 4096)) → ((◌≡◌ {A = Result Bool Refusal} (Ok b) (Ok true)) ↔ (c ≡ zeros 4096)) × ((◌≡◌ {A = Result Bool Refusal} (Ok b) (Ok false)) ↔ (c ≢ zeros 4096))
    go true exact = ((λ _. exact.0 refl, λ _. refl), (λ q. cc, λ other. absurd (other (exact.0 refl))))
    go false exact = ((λ q. cc, λ z. absurd (false≢true (exact.1 z))), (λ _ z. false≢true (exact.1 z), λ _. refl))

module _ (n : ℕ) (s f ws ws' : List ℕ) (w w' : Sides (List ℕ)) (m m' : List ℕ) (y : Result JudgeAnswer Refusal)
    (h : JudgeContract (judge_outcome graded s f n (length ws) (length w.one) (length w.zero) (length m)) ws ws' w w' m m' y)
  where
    -- what Judge makes of what it is lent
    abbrev outcome : Outcome Judgement
    outcome = judge_outcome graded s f n (length ws) (length w.one) (length w.zero) (length m)

    -- where it accepts, a degree is reported exactly where the set has a point
    degree_point : (j : Judgement) → outcome ≡ accepted j → ((k : ℕ) × (j.degree ≡ Some k)) ↔ HasPoint s
    unfolding judged
    degree_point j e = let (filter, is) = accepted_filter graded s f n _ _ _ _ j e in rw (← is) (reported_point graded_is_graded n s f filter)

    -- an answer states the judgement by its report, or without one
    stated : (a : JudgeAnswer) (x : Option Report) → y ≡ Ok a → a.report ≡ x → outcome ≡ accepted (found x a.ranks w' m')
    stated a x is e = sym h.answers ∙ ap (λ z. judge_outcome_of z w' m') is ∙ ap (λ z. accepted (found z a.ranks w' m')) e

    -- it has none exactly where the set has no point
    answered : ((a : JudgeAnswer) × (y ≡ Ok a) × (a.report ≡ None)) ↔ ((j : Judgement) × (outcome ≡ accepted j) × (HasPoint s → ⊥))
    answered = (
      λ (a, is, e). let states = stated a None is e in (_, states, λ p. let (k, degree) = (degree_point _ states).1 p in cc),
      λ (j, e, without). let (a, is, reported) = found_judged y w' m' j (h.answers ∙ e) in elim reported [
        | inl (r, _, same) ↦ absurd (without ((degree_point j e).0 (r.degree, sym (ap (λ (i : Judgement). i.degree) same))))
        | inr (none, _) ↦ (a, is, none)
      ],
    )

    -- and one exactly where it has a point
    reported_as : ((a : JudgeAnswer) × (r : Report) × (y ≡ Ok a) × (a.report ≡ Some r)) ↔ ((j : Judgement) × (outcome ≡ accepted j) × HasPoint s)
    reported_as = (
      λ (a, r, is, e). let states = stated a (Some r) is e in (_, states, (degree_point _ states).0 (r.degree, refl)),
      λ (j, e, p). let (a, is, reported) = found_judged y w' m' j (h.answers ∙ e) in elim reported [
        | inl (r, has, _) ↦ (a, r, is, has)
        | inr (_, same) ↦ (let (k, degree) = (degree_point j e).1 p in let none = ap (λ (i : Judgement). i.degree) same in cc)
      ],
    )

    -- and then zeros are left
    left_zero : (a : JudgeAnswer) → y ≡ Ok a → a.report ≡ None → (a.ranks ≡ replicate 10 no_ranks) × (ws' ≡ zeros (length ws)) × (w' ≡ pair (zeros 512) (zeros 512)) × (m' ≡ zeros 512)
    unfolding judged
    left_zero a is-a e =
        let states = stated a None is-a e in
        let (filter, is) = accepted_filter graded s f n _ _ _ _ _ states in
        let empty : points s ≡ [] = none_empty graded_is_graded n s f filter (ap (λ (j : Judgement). j.degree) is) in (
          sym (ap (λ (j : Judgement). j.ranks) is) ∙ ranks_none graded n s f empty,
          h.leaves ∙ ap (λ x. left x ws (zeros (length ws))) states,
          sym (ap (λ (j : Judgement). j.witnesses) is) ∙ ap₂ pair (witness_none graded n s f empty 1) (witness_none graded n s f empty 0),
          sym (ap (λ (j : Judgement). j.kept) is) ∙ kept_none graded n s f empty,
        )

-- a rank line of zeros
zero_line : (d : ℕ) → rank_line d (get_or (replicate 10 no_ranks) d no_ranks) ≡ decimal d ++ ascii " 0 0 0" ++ newline
unfolding ascii decimal digits
zero_line d =
    ap (rank_line d) ranks_at_lem
    ∙ ap (λ x. x ++ newline) (ap (λ x. x ++ field 0) (append_assoc (decimal d) (field 0) (field 0)) ∙ append_assoc (decimal d) (field 0 ++ field 0) (field 0))
  where
    ranks_at_lem : get_or (replicate 10 no_ranks) d no_ranks ≡ no_ranks
    ranks_at_lem = elim (dec_lt d 10) [
      | yes l ↦ get_or-replicate 10 d no_ranks no_ranks l
      | no l ↦ get_or-eq_default (replicate 10 no_ranks) no_ranks {n = d} (omega (arith, length-replicate 10 no_ranks))
    ]

-- the lines of the sheet
sheet_none : (n : ℕ) (f : List ℕ) → judgement_sheet n no_points f (judged graded n no_points f) ≡ no_point_sheet n
unfolding judgement_sheet ascii decimal digits
sheet_none n f =
    sym (ap (judgement_sheet n no_points f) (judgement_none graded n no_points f points_none refl refl refl))
    ∙ sym (no_point_lines n no_points f points_none (replicate 10 no_ranks) (pair (zeros 512) (zeros 512)) (zeros 512))
    ∙ ap₂ (λ x y. x ++ newline ++ y ++ (ascii "degree none" ++ newline) ++ sides_line (pair None None) ++ additions_line 0)
    (append_assoc (labelled "n" n) (labelled " points" 0) (ascii " mark none")) (ap (λ g. joined g (below (n + 1))) (fun_ext zero_line))
    ∙ spread (labelled "n" n ++ ascii " points 0 mark none" ++ newline ++ zero_lines n)
  where
    spread : (x : Text) → x ++ (ascii "degree none" ++ newline) ++ (ascii "sides none none" ++ newline) ++ (ascii "additions 0" ++ newline)
        ≡ x ++ ascii "degree none" ++ newline ++ ascii "sides none none" ++ newline ++ ascii "additions 0" ++ newline
    spread x =
        let one : Text = x ++ ascii "degree none" ++ newline in
        let two : Text = one ++ ascii "sides none none" ++ newline in
        ap (λ y. y ++ (ascii "sides none none" ++ newline) ++ (ascii "additions 0" ++ newline)) (sym (append_assoc x (ascii "degree none") newline))
        ∙ ap (λ y. y ++ (ascii "additions 0" ++ newline)) (sym (append_assoc one (ascii "sides none none") newline))
        ∙ sym (append_assoc two (ascii "additions 0") newline)

-- the sheet of a file with no points
printed : (file : List ℕ) (c : Contents) → reading file ≡ accepted c → c.set ≡ [] → sheet file ≡ no_point_sheet c.n
unfolding sheet lists
printed file c e empty =
    let none : mask (lists c.set) ≡ no_points = ap (λ ps. mask (lists ps)) empty ∙ mask_none in
    ap sheet_of e ∙ ap (λ s. judgement_sheet c.n s (mask (lists c.table)) (judged graded c.n s (mask (lists c.table)))) none ∙ sheet_none c.n (mask (lists c.table))

-- Rearrange accepts it with each wiring, and leaves it as it was
rearrange_none : (n : ℕ) (f ts s' f' : List ℕ) (r : Verdict) → TableOf n f → Wiring n ts → RearrangeContract (rearrange_outcome no_points f n ts) no_points s' f f' r
    → (r ≡ Ok tt) × (s' ≡ no_points)
rearrange_none n f ts s' f' r h w c =
    let filter : Filter n no_points f = filter_none h in
    let (is, set, _) = accepts_both n ts no_points s' f f' r c filter w in
    let none : HasPoint (rewired n ts no_points) → ⊥ = λ p. (only_zeros n no_points filter.set_long ((formed_says n no_points).0 filter.set_formed)).1 refl ((moved_point n ts no_points f filter w).0 p) in
    (is, set ∙ (only_zeros n (rewired n ts no_points) (rewired_long n ts no_points) ((formed_says n (rewired n ts no_points)).0 (rewired_formed n ts no_points))).0 none)

-- no refusal of a file is by 6
read_6 : (k l : ℕ) (file : List ℕ) → read_outcome k l file ≢ refused 6
unfolding read_outcome
read_6 k l file = checked_not_6 (read_checks k l) (contents file) (λ e. let (x, is) = (refusal_stands file [] e).named in number_not_6 x (sym is))

-- every sentence
pub empty_set : EmptySet
unfolding read_outcome write_outcome convert_outcome degree_outcome rank_outcome judge_outcome certify_outcome check_outcome rearrange_outcome contents two_lists point_list points_from varint groups is_empty judged
empty_set = record {
  only_zeros = only_zeros;
  read = λ n ones t r. contents_encoded (no_point_file n ones) (valid_none n ones t r);
  read_leaves = λ n ones s s' f f' r t rising long-set long-table h.
      let valid = valid_none n ones t rising in
      back_read (encode (no_point_file n ones)) (encoded_bytes (no_point_file n ones) valid, (no_point_file n ones, contents_encoded (no_point_file n ones) valid, refl, mask_none, refl)) r s s' f f' long-set long-table h;
  write = write_none;
  write_leaves = λ n f out out' w h l x. leaves_file x (write_none n f (length out) h l);
  rearrange = rearrange_none;
  judge = λ n f h. (judged graded n no_points f, judge_accepts graded n no_points f (filter_none h));
  certify = certify_none;
  certify_leaves = certified_leaves;
  check = check_none;
  check_says = check_answers;
  nothing = λ n f j e. rw (← (judge_accepted graded n no_points f j e).1) (nothing_found n f);
  equal = λ n f j e side d l m. (demand3.every n no_points f j e).none_differs (sym (ap (λ (i : Judgement). i.degree) (judge_accepted graded n no_points f j e).1) ∙ reported_none graded n no_points f points_none) side d l m;
  no_polynomial = λ n f side p. annihilates_none graded n no_points f points_none side p;
  answered = answered;
  reported = reported_as;
  left_zero = λ n s f ws ws' w w' m m' a h e. left_zero n s f ws ws' w w' m m' (Ok a) h a refl e;
  printed = printed;
  shortest = refl;
  shorter = refl;
  no_6 = number_not_6;
  read_6 = read_6;
  write_6 = λ s f n m. checked_not_6 (write_inputs s f n ++ room_for (length (file_of n s f)) m) _ (λ e. not_both (sym e));
  convert_6 = λ n b. checked_not_6 (convert_checks n b) _ (λ e. not_both (sym e));
  degree_6 = λ n b. checked_not_6 (degree_checks n b) _ (λ e. not_both (sym e));
  rank_6 = λ b n d m l. checked_not_6 (rank_checks b n d m l) _ (λ e. not_both (sym e));
  judge_6 = λ s f n m p q l. checked_not_6 (judge_checks s f n m p q l) _ (λ e. not_both (sym e));
  certify_6 = λ s f n side d m l. checked_not_6 (certify_inputs s f n side d m l ++ ranks_equal graded s f n side d) _ (λ e. not_both (sym e));
  check_6 = λ s f n side d c. checked_not_6 (check_inputs s f n side d (length c)) _ (λ e. not_both (sym e));
  rearrange_6 = λ s f n ts. checked_not_6 (rearrange_checks s f n ts) _ (λ e. not_both (sym e));
}
