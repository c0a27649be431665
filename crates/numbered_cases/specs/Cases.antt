-- The numbered cases of docs/SPECIFICATION.md, 'Cases', as one list of inputs and expected answers.
--   JudgeFact        an answer of Judge that is expected
--   Fact             an answer that is expected
--   Case             the number of taps, the points of the set, the points where the table is 1, and the expected answers
--   same_list xs ys  whether two lists are the same
--   same_option x y  whether two options are the same: both none, or the same number
--   on_accepted t o  whether an outcome accepts, with values that pass the test t
--   is_refused k o   whether an outcome is a refusal by the number k
--   marks_only us b  whether the buffer b has 512 bytes, 1 at the numbers us and 0 elsewhere
--   text_of ls       the text of lines
--   all t xs         whether each member of a list passes the test t
--   judged_so n j    whether a fact is so of the judgement j of n taps
--   holds_fact c     whether a fact is so of a case
--   holds c          whether each fact of a case is so
--   cases            the list
use Rattle.std.specs.Prelude.{Bool, true, false, ◌&&◌, List, [], ◌∷◌, ◌++◌, map, ℕ, ◌+◌, eqb, Option, None, Some}
use Prim.Native.String.{String}
use Rattle.cube.specs.NumberLists.{below, lists}
use Rattle.cube.specs.Mask.{mask}
use Rattle.order.specs.BuiltIn.{graded}
use Rattle.refusal.specs.Outcome.{Outcome, refused, accepted}
use Rattle.polynomial.specs.Convert.{convert_outcome, convert_leaves}
use Rattle.polynomial.specs.Degree.{degree_outcome}
use Rattle.matrix.specs.Rank.{rank_outcome}
use Rattle.filter_file.specs.File.{encode}
use Rattle.filter.specs.Sides.{of_side}
use Rattle.immunity.specs.Judgement.{Judgement, set_rank, part_ranks}
use Rattle.judge.specs.Judge.{judge_outcome}
use Rattle.text.specs.Text.{Text, ascii, newline}
use Rattle.sheet_text.specs.Sheet.{sheet}

-- an answer of Judge that is expected
pub data JudgeFact : Type 0 where
  -- at a degree, the set, part 1 and part 0 have these ranks
  ranks : ℕ → ℕ → ℕ → ℕ → JudgeFact
  -- at the degrees from 0 to n, the set has these ranks
  set_ranks : List ℕ → JudgeFact
  -- the set has this mark, or none
  mark : Option ℕ → JudgeFact
  -- this degree is reported, or none
  degree : Option ℕ → JudgeFact
  -- and this side, or none
  side : Option ℕ → JudgeFact
  -- and these as the own degrees of side 1 and side 0
  sides : Option ℕ → Option ℕ → JudgeFact
  -- the witness buffer of a side is 1 at these exponents, and 0 elsewhere
  witness : ℕ → List ℕ → JudgeFact
  -- the mask of kept points is 1 at these points of the set, and 0 elsewhere
  kept : List ℕ → JudgeFact

-- an answer that is expected
pub data Fact : Type 0 where
  -- Convert accepts the table, and leaves coefficients that are 1 at these exponents, and 0 elsewhere
  coefficients : List ℕ → Fact
  -- Convert accepts the table, and Degree refuses its coefficients by this number
  no_degree : ℕ → Fact
  -- Rank gives the set at a degree this rank
  rank : ℕ → ℕ → Fact
  -- Judge accepts the set and the table, and answers and leaves this
  judgement : List JudgeFact → Fact
  -- the file of n, the set and the table has these bytes, and its sheet these lines
  printed : List ℕ → List String → Fact

-- inputs and expected answers
pub record Case : Type 0 where
  pub taps : ℕ
  pub set : List ℕ
  pub table : List ℕ
  pub facts : List Fact

-- two lists are the same
unfoldable pub same_list : List ℕ → List ℕ → Bool
same_list [] [] = true
same_list [] (y ∷ ys) = false
same_list (x ∷ xs) [] = false
same_list (x ∷ xs) (y ∷ ys) = eqb x y && same_list xs ys

-- both are none, or the same number
unfoldable pub same_option : Option ℕ → Option ℕ → Bool
same_option None None = true
same_option None (Some y) = false
same_option (Some x) None = false
same_option (Some x) (Some y) = eqb x y

-- an acceptance with values that pass a test
unfoldable pub on_accepted : {A : Type 0} → (A → Bool) → Outcome A → Bool
on_accepted t (refused j) = false
on_accepted t (accepted a) = t a

-- a refusal by a number
unfoldable pub is_refused : {A : Type 0} → ℕ → Outcome A → Bool
is_refused k (refused j) = eqb j k
is_refused k (accepted a) = false

-- 1 at these numbers, and 0 elsewhere
abbrev pub marks_only : List ℕ → List ℕ → Bool
marks_only us b = same_list b (mask (lists us))

-- the bytes of lines, each ended
unfoldable pub text_of : List String → Text
text_of [] = []
text_of (l ∷ ls) = ascii l ++ newline ++ text_of ls

-- each member of a list passes a test
unfoldable pub all : {A : Type 0} → (A → Bool) → List A → Bool
all t [] = true
all t (x ∷ xs) = t x && all t xs

-- whether a fact is so of a judgement of n taps
unfoldable pub judged_so : ℕ → Judgement → JudgeFact → Bool
judged_so n j (ranks d x y z) = eqb (set_rank j d) x && eqb (part_ranks j d).one y && eqb (part_ranks j d).zero z
judged_so n j (set_ranks rs) = same_list (map (set_rank j) (below (n + 1))) rs
judged_so n j (mark m) = same_option m j.mark
judged_so n j (degree k) = same_option k j.degree
judged_so n j (side i) = same_option i j.side
judged_so n j (sides x y) = same_option x j.degrees.one && same_option y j.degrees.zero
judged_so n j (witness i us) = marks_only us (of_side i j.witnesses)
judged_so n j (kept ps) = marks_only ps j.kept

-- whether a fact is so of a case
unfoldable pub holds_fact : Case → Fact → Bool
holds_fact c (coefficients us) =
    let f : List ℕ = mask (lists c.table) in
    on_accepted (λ x. marks_only us (convert_leaves c.taps f)) (convert_outcome c.taps f)
holds_fact c (no_degree k) =
    let f : List ℕ = mask (lists c.table) in
    on_accepted (λ x. is_refused k (degree_outcome c.taps (convert_leaves c.taps f))) (convert_outcome c.taps f)
holds_fact c (rank d r) = on_accepted (λ x. eqb x.rank r) (rank_outcome graded (mask (lists c.set)) c.taps d 8192 512)
holds_fact c (judgement fs) =
    on_accepted (λ j. all (judged_so c.taps j) fs) (judge_outcome graded (mask (lists c.set)) (mask (lists c.table)) c.taps 8192 512 512 512)
holds_fact c (printed file ls) = same_list (encode (record { n = c.taps; set = c.set; table = c.table })) file && same_list (sheet file) (text_of ls)

-- each fact of a case is so
unfoldable pub holds : Case → Bool
holds c = all (holds_fact c) c.facts

-- cases 1 to 13
unfoldable pub cases : List Case
cases =
    -- case 1
    record { taps = 3; set = []; table = 7 ∷ []; facts = coefficients (7 ∷ []) ∷ [] }
    -- case 2
    ∷ record { taps = 2; set = []; table = 0 ∷ []; facts = coefficients (0 ∷ 1 ∷ 2 ∷ 3 ∷ []) ∷ [] }
    -- case 3
    ∷ record { taps = 1; set = []; table = []; facts = no_degree 9 ∷ [] }
    -- case 4
    ∷ record { taps = 2; set = []; table = []; facts = rank 1 0 ∷ [] }
    -- case 5
    ∷ record {
      taps = 2;
      set = 0 ∷ 1 ∷ 2 ∷ 3 ∷ [];
      table = 3 ∷ [];
      facts =
          printed
          (2 ∷ 4 ∷ 0 ∷ 1 ∷ 1 ∷ 1 ∷ 1 ∷ 3 ∷ [])
          (
          "n 2 points 4 mark 1"
          ∷ "0 1 1 1"
          ∷ "1 3 1 3"
          ∷ "2 4 1 3"
          ∷ "degree 1 side 1 witness 0 1"
          ∷ "sides 1 2"
          ∷ "side 1 point 0 sum 3"
          ∷ "side 1 point 1 sum 3"
          ∷ "side 1 point 2 sum 3"
          ∷ "side 0 point 3 sum 0"
          ∷ "additions 19"
          ∷ []
          )
          ∷ [];
    }
    -- case 6
    ∷ record {
      taps = 3;
      set = 0 ∷ 1 ∷ 2 ∷ 3 ∷ 4 ∷ 5 ∷ 6 ∷ 7 ∷ [];
      table = 3 ∷ 5 ∷ 6 ∷ 7 ∷ [];
      facts = judgement (ranks 1 4 4 4 ∷ mark (Some 2) ∷ degree (Some 2) ∷ side (Some 1) ∷ kept (0 ∷ 1 ∷ 2 ∷ 3 ∷ 4 ∷ 5 ∷ 6 ∷ []) ∷ []) ∷ [];
    }
    -- case 7
    ∷ record {
      taps = 4;
      set = 0 ∷ 3 ∷ 5 ∷ 6 ∷ 9 ∷ 10 ∷ 12 ∷ 15 ∷ [];
      table = 6 ∷ 10 ∷ 12 ∷ 15 ∷ [];
      facts = judgement (ranks 1 4 4 4 ∷ mark (Some 2) ∷ degree (Some 2) ∷ []) ∷ [];
    }
    -- case 8
    ∷ record {
      taps = 1;
      set = 0 ∷ [];
      table = [];
      facts =
          judgement (degree (Some 0) ∷ side (Some 1) ∷ witness 1 (0 ∷ []) ∷ [])
          ∷ printed
          (1 ∷ 1 ∷ 0 ∷ 0 ∷ [])
          ("n 1 points 1 mark 0" ∷ "0 1 0 1" ∷ "1 1 0 1" ∷ "degree 0 side 1 witness 0" ∷ "sides 0 none" ∷ "additions 0" ∷ [])
          ∷ [];
    }
    -- case 9
    ∷ record {
      taps = 1;
      set = 0 ∷ [];
      table = 0 ∷ [];
      facts =
          judgement (degree (Some 0) ∷ side (Some 0) ∷ witness 0 (0 ∷ []) ∷ [])
          ∷ printed
          (1 ∷ 1 ∷ 0 ∷ 1 ∷ 0 ∷ [])
          ("n 1 points 1 mark 0" ∷ "0 1 1 0" ∷ "1 1 1 0" ∷ "degree 0 side 0 witness 0" ∷ "sides none 0" ∷ "additions 0" ∷ [])
          ∷ [];
    }
    -- case 10
    ∷ record {
      taps = 2;
      set = 1 ∷ 2 ∷ [];
      table = 1 ∷ [];
      facts = judgement (set_ranks (1 ∷ 2 ∷ 2 ∷ []) ∷ mark (Some 1) ∷ degree (Some 1) ∷ side (Some 1) ∷ witness 1 (0 ∷ 1 ∷ []) ∷ kept (1 ∷ 2 ∷ []) ∷ []) ∷ [];
    }
    -- case 11: weight 2 in four taps
    ∷ record {
      taps = 4;
      set = 3 ∷ 5 ∷ 6 ∷ 9 ∷ 10 ∷ 12 ∷ [];
      table = 3 ∷ 5 ∷ 6 ∷ [];
      facts =
          judgement (set_ranks (1 ∷ 4 ∷ 6 ∷ 6 ∷ 6 ∷ []) ∷ mark (Some 1) ∷ kept (3 ∷ 5 ∷ 6 ∷ 9 ∷ []) ∷ [])
          ∷ printed
          (4 ∷ 6 ∷ 3 ∷ 2 ∷ 1 ∷ 3 ∷ 1 ∷ 2 ∷ 3 ∷ 3 ∷ 2 ∷ 1 ∷ [])
          (
          "n 4 points 6 mark 1"
          ∷ "0 1 1 1"
          ∷ "1 4 3 3"
          ∷ "2 6 3 3"
          ∷ "3 6 3 3"
          ∷ "4 6 3 3"
          ∷ "degree 1 side 1 witness 1 2 4"
          ∷ "sides 1 1"
          ∷ "side 1 point 9 sum 3"
          ∷ "side 1 point 10 sum 3"
          ∷ "side 1 point 12 sum 3"
          ∷ "side 0 point 3 sum 9"
          ∷ "side 0 point 5 sum 9"
          ∷ "side 0 point 6 sum 9"
          ∷ "additions 73"
          ∷ []
          )
          ∷ [];
    }
    -- case 12: no point in one tap
    ∷ record {
      taps = 1;
      set = [];
      table = [];
      facts =
          judgement (ranks 0 0 0 0 ∷ ranks 1 0 0 0 ∷ mark None ∷ degree None ∷ side None ∷ sides None None ∷ witness 1 [] ∷ witness 0 [] ∷ kept [] ∷ [])
          ∷ printed
          (1 ∷ 0 ∷ 0 ∷ [])
          ("n 1 points 0 mark none" ∷ "0 0 0 0" ∷ "1 0 0 0" ∷ "degree none" ∷ "sides none none" ∷ "additions 0" ∷ [])
          ∷ [];
    }
    -- case 13: no point in four taps
    ∷ record {
      taps = 4;
      set = [];
      table = 3 ∷ 5 ∷ 6 ∷ [];
      facts =
          judgement (
          set_ranks (0 ∷ 0 ∷ 0 ∷ 0 ∷ 0 ∷ []) ∷ ranks 4 0 0 0 ∷ mark None ∷ degree None ∷ side None ∷ sides None None ∷ witness 1 [] ∷ witness 0 [] ∷ kept [] ∷ []
          )
          ∷ printed
          (4 ∷ 0 ∷ 3 ∷ 3 ∷ 2 ∷ 1 ∷ [])
          (
          "n 4 points 0 mark none"
          ∷ "0 0 0 0"
          ∷ "1 0 0 0"
          ∷ "2 0 0 0"
          ∷ "3 0 0 0"
          ∷ "4 0 0 0"
          ∷ "degree none"
          ∷ "sides none none"
          ∷ "additions 0"
          ∷ []
          )
          ∷ [];
    }
    ∷ []
