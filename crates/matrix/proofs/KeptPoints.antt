-- The points of the kept rows: while the points of a mask are taken, and at fewer columns.
--   kept_at_none    no point is taken yet
--   kept_at_yes     the next number is a point of the mask
--   kept_at_no      it is not
--   rows_before     there are 512 rows before those that stay
--   taken_count     how many rows are kept
--   Wide t          each row has 512 columns
--   whole_count     the same where the rows are taken whole, whatever the number of columns
--   kept_at_below   the kept points of the first columns are those whose pivots are there
--   kept_at_all     all are kept of all columns
--   kept_at_small   each is below 512
use mathlib.Core.Path.{◌≡◌, refl, sym, ap, ap₂, ◌∙◌, subst}
use mathlib.Core.Bool.{Bool, true, false}
use mathlib.Core.List.{List, [], ◌∷◌, map}
use Prim.Native.Nat.{ℕ, ◌+◌, ◌≤◌, ◌<◌}
use native.Mathlib.Omega.{arith}
use lib.ListN.{length, get_or, set, take, drop, length-append, length-drop}
use lib.Seq.{length-take-le}
use Rattle.cube.specs.NumberLists.{up_from, select, Inside}
use Rattle.cube.specs.Mask.{member}
use Rattle.cube.proofs.Masks.{select_yes, select_no}
use Rattle.gf2.specs.Vector.{Row, Each}
use Rattle.gf2.specs.Elimination.{pivot, is_zero, reduce, keep_unless, Elimination, nothing, take_point, take_points, eliminate}
use Rattle.gf2.specs.Cut.{cut}
use Rattle.gf2.specs.Steps.{row_of, one_more_unless, Pivots}
use Rattle.gf2.specs.Prefix.{cons_unless, kept_to, points_below}
use Rattle.gf2.proofs.Each.{each_taken, member_each}
use Rattle.gf2.proofs.Kept.{eliminate_snoc, points_among}
use Rattle.gf2.proofs.Padded.{take_points_same}
use Rattle.gf2.proofs.PointsBelow.{below_all, points_cut}
use Rattle.gf2.proofs.Prefix.{cut_all, cut_below, pivots_taken}
use Rattle.gf2.proofs.Steps.{kept_more}
use Rattle.point_rows.specs.Workspace.{stored}
use Rattle.matrix.specs.Workspace.{Eliminates, EliminatesAll}
use Rattle.matrix.specs.Kept.{KeptAt}
use Rattle.matrix.proofs.Taking.{points_to}

-- one more or none at the end of a list: how many there are
keep_length : {A : Type 0} (z : Bool) (xs : List A) (x : A) → length (keep_unless z xs x) ≡ one_more_unless z (length xs)
unfolding keep_unless
keep_length true xs x = refl
keep_length false xs x = length-append xs (x ∷ [])

module _ (t : List Row) (c : ℕ) (b : List ℕ) where
  -- no point is taken yet
  pub kept_at_none : (qs : List ℕ) → KeptAt t c (points_to b 0) 0 qs
  unfolding up_from select take_points
  kept_at_none qs = refl

  -- the next number is a point of the mask
  pub kept_at_yes : (a k k' : ℕ) (qs : List ℕ) → member b a ≡ true → k < length qs
      → length (eliminate (stored t c) (points_to b a)).kept ≡ k → length (eliminate (stored t c) (points_to b (a + 1))).kept ≡ k'
      → KeptAt t c (points_to b a) k qs → KeptAt t c (points_to b (a + 1)) k' (set qs k a)
  unfolding take_point
  kept_at_yes a k k' qs e room count count' h =
      let old : Elimination = eliminate (stored t c) (points_to b a) in
      let left : Row = (reduce old.kept (stored t c a)).left in
      let z : Bool = is_zero left in
      let next : eliminate (stored t c) (points_to b (a + 1)) ≡ take_point (stored t c) old a =
      ap (eliminate (stored t c)) (select_yes (member b) a e) ∙ eliminate_snoc (stored t c) (points_to b a) a in
      let more : k' ≡ one_more_unless z k =
      sym count' ∙ ap (λ (x : Elimination). length x.kept) next ∙ keep_length z old.kept left ∙ ap (one_more_unless z) count in
      ap (λ x. take x (set qs k a)) more
      ∙ kept_more z qs k a room
      ∙ ap (λ ps. keep_unless z ps a) h
      ∙ sym (ap (λ (x : Elimination). x.points) next)

  -- it is not
  pub kept_at_no : (a k : ℕ) (qs : List ℕ) → member b a ≡ false → KeptAt t c (points_to b a) k qs → KeptAt t c (points_to b (a + 1)) k qs
  kept_at_no a k qs e h = h ∙ ap (λ ps. (eliminate (stored t c) ps).points) (sym (select_no (member b) a e))

-- there are 512 rows before those that stay
pub rows_before : (t t' : List Row) → drop 512 t' ≡ drop 512 t → length t ≡ 1024 → 512 ≤ length t'
rows_before t t' e long = omega (arith, simp length-drop at (ap length e))

-- how many rows are kept
pub taken_count : (t t' : List Row) (c : ℕ) (ps : List ℕ) (k n : ℕ) → Eliminates t t' c ps k n → length t ≡ 1024 → k ≤ 512 → length (eliminate (stored t c) ps).kept ≡ k
taken_count t t' c ps k n h long small = ap length h.kept ∙ length-take-le k t' (omega (arith, rows_before t t' h.stays long))

-- rows that are not zero are kept whole
kept_whole : (rs : List Row) → Each (λ r. (length r ≡ 512) × (pivot r < 512)) rs → kept_to 512 rs ≡ rs
unfolding kept_to cons_unless
kept_whole [] f = refl
kept_whole (r ∷ rs) f =
    let some : is_zero (cut 512 r) ≡ false = cut_below 512 r (omega (arith, f.0.0, f.0.1)) f.0.1 in
    rw some (ap₂ {C = List Row} (λ x xs. x ∷ xs) (cut_all 512 r (omega (arith, f.0.0))) (kept_whole rs f.1))

-- rows of 512 columns
abbrev pub Wide : List Row → Type 0
Wide t = (j : ℕ) → j < length t → length (row_of t j) ≡ 512

module _ (t t' : List Row) (ps : List ℕ) (k : ℕ) (xs pivots : List ℕ) (h : EliminatesAll t t' ps k xs) (wide' : Wide t') (room : k ≤ length t') (p : Pivots pivots t' k) where
  -- the kept rows of all columns
  kept_first : (eliminate (stored t 512) ps).kept ≡ take k t'
  kept_first = h.kept 512 ∙ kept_whole (take k t') ((each_taken (λ r. (length r ≡ 512) × (pivot r < 512)) [] k t' room).1 (λ j i. (wide' j (omega arith), omega (arith, (p j i).0, (p j i).1))))

  -- how many there are
  pub whole_count : length (eliminate (stored t 512) ps).kept ≡ k
  whole_count = ap length kept_first ∙ length-take-le k t' room

  -- the kept points of the first columns are those whose pivots are there
  pub kept_at_below : (qs : List ℕ) → KeptAt t 512 ps k qs → k ≤ length pivots → Wide t → length t ≡ 1024 → Inside 512 ps
      → (c : ℕ) → points_below c (take k pivots) (take k qs) ≡ (eliminate (stored t c) ps).points
  kept_at_below qs at small wide long inside c =
      let whole : ℕ → Row = stored t 512 in
      let uncut : (a : ℕ) → a < 512 → whole a ≡ row_of t (512 + a) = λ a i. cut_all 512 (row_of t (512 + a)) (omega (arith, wide (512 + a) (omega arith))) in
      let same : Each (λ a. stored t c a ≡ cut c (whole a)) ps = member_each (λ a. stored t c a ≡ cut c (whole a)) ps (λ a i. ap (cut c) (sym (uncut a (inside a i)))) in
      let rows : Each (λ a. length (whole a) ≡ 512) ps =
      member_each (λ a. length (whole a) ≡ 512) ps (λ a i. ap length (uncut a (inside a i)) ∙ wide (512 + a) (omega (arith, inside a i))) in
      sym (ap (λ (x : Elimination). x.points) (take_points_same (stored t c) (λ a. cut c (whole a)) nothing ps same)
      ∙ points_cut c 512 whole ps rows
      ∙ ap₂ (λ rs ys. points_below c (map pivot rs) ys) kept_first (sym at)
      ∙ ap (λ ys. points_below c ys (take k qs)) (pivots_taken pivots t' k small room p))

-- all points are kept of all columns
pub kept_at_all : (t : List Row) (k : ℕ) (pivots qs : List ℕ) → Pivots pivots t k → k ≤ length pivots → k ≤ length qs → points_below 512 (take k pivots) (take k qs) ≡ take k qs
kept_at_all t k pivots qs p l m =
    below_all 512 (take k pivots) (take k qs) (length-take-le k qs m ∙ sym (length-take-le k pivots l))
    ((each_taken (λ x. x < 512) 0 k pivots l).1 (λ j i. (p j i).1))

-- each is below 512
pub kept_at_small : (t : List Row) (c : ℕ) (ps : List ℕ) (k : ℕ) (qs : List ℕ) → KeptAt t c ps k qs → k ≤ length qs → Inside 512 ps → (j : ℕ) → j < k → get_or qs j 0 < 512
kept_at_small t c ps k qs h l inside =
    (each_taken (λ q. q < 512) 0 k qs l).0
    (subst (Each (λ q. q < 512)) (sym h)
    (member_each (λ q. q < 512) (eliminate (stored t c) ps).points (λ q m. inside q (points_among (stored t c) ps q m))))
