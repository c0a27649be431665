-- Rows continued by zeros: elimination does the same with them.
--   Fits m r           r has at most m columns, and a one at its pivot
--   entry_padded       the entries are those of the row
--   cut_padded         zeros from a column on: the first columns, continued by zeros
--   append_padded      the row with zeros behind it
--   add_padded         sums of rows continued by zeros
--   total_padded       a total of rows continued by zeros, added to such a row
--   unit_padded        512 zeros with a one at a column: a unit row continued by zeros
--   zero_row_lem           512 zeros: no columns, continued by zeros
--   length_add         a sum is as long as the longer of its terms
--   pivot_padded       the pivot stays
--   zero_padded        a row continued by zeros is zero just if the row is
--   reduce_padded      a row continued by zeros is reduced alike
--   reduce_fits        what is left of a row has no more columns
--   widened m e        an elimination with its kept rows continued by zeros
--   eliminate_padded   rows continued by zeros: the kept rows are the same, continued by zeros, and all else is the same
--   kept_fits          the kept rows have no more columns than the rows
--   take_points_same   elimination sees only the rows of its points
use mathlib.Core.Path.{◌≡◌, refl, sym, ap, ◌∙◌}
use mathlib.Core.Bool.{Bool, true, false, xor, not, ◌&&◌, false≢true}
use mathlib.Core.List.{List, [], ◌∷◌, ◌++◌, map, map-append}
use Prim.Native.Nat.{ℕ, zero, suc, ◌-◌, ◌≤◌, ◌<◌}
use native.Mathlib.Omega.{arith}
use lib.ListN.{length, set, take, replicate}
use Rattle.gf2.specs.Vector.{Row, entry, add, total, unit, Each, Choice, chosen}
use Rattle.gf2.specs.Elimination.{pivot, is_zero, Reduced, add_if, reduce, Elimination, nothing, keep_unless, take_point, take_points, eliminate}
use Rattle.gf2.specs.Cut.{zero_row, cut, padded}
use Rattle.gf2.proofs.Bits.{xor_self, xor_false, false_xor}
use Rattle.gf2.proofs.Each.{each_append}
use Rattle.gf2.proofs.Dot.{add_nil, add_assoc}
use Rattle.gf2.proofs.Reducing.{entry_pivot}

-- at most m columns, and a one at the pivot
abbrev pub Fits : ℕ → Row → Type 0
Fits m r = (length r ≤ m) × (entry r (pivot r) ≡ true)

-- the entries are those of the row
pub entry_padded : (m : ℕ) (v : Row) (c : ℕ) → length v ≤ m → entry (padded m v) c ≡ entry v c
unfolding padded
entry_padded zero [] c l = refl
entry_padded zero (x ∷ v) c l = absurd (omega arith)
entry_padded (suc m) [] zero l = refl
entry_padded (suc m) [] (suc c) l = entry_padded m [] c (omega arith)
entry_padded (suc m) (x ∷ v) zero l = refl
entry_padded (suc m) (x ∷ v) (suc c) l = entry_padded m v c (omega arith)

-- zeros from column c on: the first columns, continued by zeros
pub cut_padded : (c m : ℕ) (v : Row) → cut c (padded m v) ≡ padded m (take c v)
unfolding cut padded
cut_padded c zero v = refl
cut_padded zero (suc m) [] = ap (λ w. false ∷ w) (cut_padded zero m [])
cut_padded zero (suc m) (x ∷ v) = ap (λ w. false ∷ w) (cut_padded zero m v)
cut_padded (suc c) (suc m) [] = ap (λ w. false ∷ w) (cut_padded c m [] ∙ ap (padded m) (none c))
  where
    none : (k : ℕ) → take {A = Bool} k [] ≡ []
    none zero = refl
    none (suc k) = refl
cut_padded (suc c) (suc m) (x ∷ v) = ap (λ w. x ∷ w) (cut_padded c m v)

-- no columns, continued by zeros
padded_nil : (m : ℕ) → replicate m false ≡ padded m []
unfolding padded
padded_nil zero = refl
padded_nil (suc m) = ap (λ w. false ∷ w) (padded_nil m)

-- the row with zeros behind it
pub append_padded : (m : ℕ) (v : Row) → length v ≤ m → v ++ replicate (m - length v) false ≡ padded m v
unfolding padded
append_padded m [] l = let e : m - 0 ≡ m = omega arith in rw e (padded_nil m)
append_padded zero (x ∷ v) l = absurd (omega arith)
append_padded (suc m) (x ∷ v) l =
    let e : suc m - suc (length v) ≡ m - length v = omega arith in
    rw e (ap (λ w. x ∷ w) (append_padded m v (omega arith)))

-- sums of rows continued by zeros
pub add_padded : (m : ℕ) (v w : Row) → add (padded m v) (padded m w) ≡ padded m (add v w)
unfolding padded add
add_padded zero v w = refl
add_padded (suc m) [] [] = rw xor_self (ap (λ u. false ∷ u) (add_padded m [] []))
add_padded (suc m) [] (y ∷ w) = rw false_xor (ap (λ u. y ∷ u) (add_padded m [] w))
add_padded (suc m) (x ∷ v) [] = rw xor_false (ap (λ u. x ∷ u) (add_padded m v [] ∙ ap (padded m) (add_nil v)))
add_padded (suc m) (x ∷ v) (y ∷ w) = ap (λ u. xor x y ∷ u) (add_padded m v w)

-- a total of rows continued by zeros, added to such a row
pub total_padded : (m : ℕ) (v : Row) (c : Choice) (rs : List Row)
    → add (padded m v) (total (chosen c (map (padded m) rs))) ≡ padded m (add v (total (chosen c rs)))
unfolding chosen total
total_padded m v [] rs = rw (add_nil (padded m v), add_nil v)
total_padded m v (b ∷ c) [] = rw (add_nil (padded m v), add_nil v)
total_padded m v (true ∷ c) (r ∷ rs) =
    sym (add_assoc (padded m v) (padded m r) (total (chosen c (map (padded m) rs))))
    ∙ ap (λ u. add u (total (chosen c (map (padded m) rs)))) (add_padded m v r)
    ∙ total_padded m (add v r) c rs
    ∙ ap (padded m) (add_assoc v r (total (chosen c rs)))
total_padded m v (false ∷ c) (r ∷ rs) = total_padded m v c rs

-- zeros with a one at a column: a unit row continued by zeros
unit_zeros : (m c : ℕ) → c < m → set (replicate m false) c true ≡ padded m (unit c)
unfolding padded unit
unit_zeros zero c l = absurd (omega arith)
unit_zeros (suc m) zero l = ap (λ v. true ∷ v) (padded_nil m)
unit_zeros (suc m) (suc c) l = ap (λ v. false ∷ v) (unit_zeros m c (omega arith))

-- the same of 512 zeros
pub unit_padded : (c : ℕ) → c < 512 → set zero_row c true ≡ padded 512 (unit c)
unfolding zero_row
unit_padded c l = unit_zeros 512 c l

-- 512 zeros: no columns, continued by zeros
pub zero_row_lem : zero_row ≡ padded 512 []
unfolding zero_row
zero_row_lem = padded_nil 512

-- the same where a row is added or not
add_if_padded : (b : Bool) (m : ℕ) (v w : Row) → add_if b (padded m v) (padded m w) ≡ padded m (add_if b v w)
unfolding add_if
add_if_padded true m v w = add_padded m v w
add_if_padded false m v w = refl

-- a sum is as long as the longer of its terms
pub length_add : (m : ℕ) (v w : Row) → length v ≤ m → length w ≤ m → length (add v w) ≤ m
unfolding add
length_add m [] w h l = l
length_add m (x ∷ v) [] h l = h
length_add zero (x ∷ v) (y ∷ w) h l = absurd (omega arith)
length_add (suc m) (x ∷ v) (y ∷ w) h l = let later = length_add m v w (omega arith) (omega arith) in omega (arith, later)

-- the same where a row is added or not
length_add_if : (b : Bool) (m : ℕ) (v w : Row) → length v ≤ m → length w ≤ m → length (add_if b v w) ≤ m
unfolding add_if
length_add_if true m v w h l = length_add m v w h l
length_add_if false m v w h l = h

-- the pivot stays
pub pivot_padded : (m : ℕ) (v : Row) → Fits m v → pivot (padded m v) ≡ pivot v
unfolding padded pivot
pivot_padded m [] f = absurd (false≢true f.1)
pivot_padded zero (x ∷ v) f = absurd (omega arith)
pivot_padded (suc m) (true ∷ v) f = refl
pivot_padded (suc m) (false ∷ v) f = ap suc (pivot_padded m v (omega arith, f.1))

-- a row continued by zeros is zero just if the row is
pub zero_padded : (m : ℕ) (v : Row) → length v ≤ m → is_zero (padded m v) ≡ is_zero v
unfolding padded is_zero
zero_padded zero [] l = refl
zero_padded zero (x ∷ v) l = absurd (omega arith)
zero_padded (suc m) [] l = zero_padded m [] (omega arith)
zero_padded (suc m) (x ∷ v) l = ap (λ b. not x && b) (zero_padded m v (omega arith))

-- a row continued by zeros is reduced alike
pub reduce_padded : (m : ℕ) (kept : List Row) (v : Row) → Each (Fits m) kept → length v ≤ m
    → reduce (map (padded m) kept) (padded m v) ≡ record { left = padded m (reduce kept v).left; added = (reduce kept v).added }
unfolding reduce
reduce_padded m [] v f l = refl
reduce_padded m (r ∷ kept) v f l =
    let b : Bool = entry v (pivot r) in
    let next = reduce_padded m kept (add_if b v r) f.1 (length_add_if b m v r l f.0.0) in
    rw (pivot_padded m r f.0, entry_padded m v (pivot r) l, add_if_padded, next)

-- what is left of a row has no more columns
pub reduce_fits : (m : ℕ) (kept : List Row) (v : Row) → Each (Fits m) kept → length v ≤ m → length (reduce kept v).left ≤ m
unfolding reduce
reduce_fits m [] v f l = l
reduce_fits m (r ∷ kept) v f l = reduce_fits m kept _ f.1 (length_add_if _ m v r l f.0.0)

-- an elimination with its kept rows continued by zeros
abbrev pub widened : ℕ → Elimination → Elimination
widened m e = record { kept = map (padded m) e.kept; combinations = e.combinations; points = e.points; additions = e.additions }

module _ (m : ℕ) (row : ℕ → Row) (short : (a : ℕ) → length (row a) ≤ m) where
  -- the rows continued by zeros
  abbrev wide : ℕ → Row
  wide a = padded m (row a)

  -- one point is taken alike
  take_point_padded : (e : Elimination) → Each (Fits m) e.kept → (a : ℕ)
      → Each (Fits m) (take_point row e a).kept × (take_point wide (widened m e) a ≡ widened m (take_point row e a))
  unfolding take_point keep_unless
  take_point_padded e h a = go (is_zero r.left) refl
    where
      r : Reduced
      r = reduce e.kept (row a)

      wide_r : reduce (map (padded m) e.kept) (wide a) ≡ record { left = padded m r.left; added = r.added }
      wide_r = reduce_padded m e.kept (row a) h (short a)

      fits : length r.left ≤ m
      fits = reduce_fits m e.kept (row a) h (short a)

      go : (z : Bool) → is_zero r.left ≡ z → Each (Fits m) (take_point row e a).kept × (take_point wide (widened m e) a ≡ widened m (take_point row e a))
      go true z = (rw z h, rw (wide_r, zero_padded m r.left fits, z) refl)
      go false z = (
        rw z (each_append (Fits m) e.kept (r.left ∷ []) h ((fits, entry_pivot r.left z), tt)),
        rw (wide_r, zero_padded m r.left fits, z, map-append) refl,
      )

  -- more points are taken alike
  take_points_padded : (e : Elimination) → Each (Fits m) e.kept → (ps : List ℕ)
      → Each (Fits m) (take_points row e ps).kept × (take_points wide (widened m e) ps ≡ widened m (take_points row e ps))
  unfolding take_points
  take_points_padded e h [] = (h, refl)
  take_points_padded e h (a ∷ ps) =
      let one = take_point_padded e h a in
      let more = take_points_padded (take_point row e a) one.0 ps in
      (more.0, ap (λ x. take_points wide x ps) one.1 ∙ more.1)

  -- the kept rows are the same, continued by zeros, and all else is the same
  pub eliminate_padded : (ps : List ℕ) → eliminate wide ps ≡ widened m (eliminate row ps)
  eliminate_padded ps = (take_points_padded nothing tt ps).1

  -- the kept rows have no more columns, and ones at their pivots
  pub kept_fits : (ps : List ℕ) → Each (Fits m) (eliminate row ps).kept
  kept_fits ps = (take_points_padded nothing tt ps).0

-- elimination sees only the rows of its points
pub take_points_same : (row row' : ℕ → Row) (e : Elimination) (ps : List ℕ) → Each (λ a. row a ≡ row' a) ps → take_points row e ps ≡ take_points row' e ps
unfolding take_points take_point
take_points_same row row' e [] h = refl
take_points_same row row' e (a ∷ ps) h = rw h.0 (take_points_same row row' (take_point row' e a) ps h.1)
