-- The rows of the workspace while a row is reduced and kept.
--   reduce_next    a row is reduced by one row more
--   reduces_none   by no rows: nothing changes
--   reduced_row    what is left of the row
--   reduces_next   by one row more
--   pivot_zero     a row whose pivot is past its end is zero
--   pivot_one      a row whose pivot is before its end is not
--   pivots_set     a row behind the first k may change
--   pivots_same    only the first k rows matter
--   pivots_more    one row more has its pivot stored
--   kept_more      the first members of a list after one was stored behind them, which is kept or not
--   keep_map       the images of a list with one more member, or none
use mathlib.Core.Path.{◌≡◌, refl, sym, ap, ap₂, ◌∙◌}
use mathlib.Core.Bool.{Bool, true, false}
use mathlib.Core.List.{List, [], ◌∷◌, ◌++◌, map, map-append}
use Prim.Native.Nat.{ℕ, ◌+◌, ◌≤◌, ◌<◌}
use native.Mathlib.Nat.{le_refl}
use native.Mathlib.Numerals.{add-one}
use native.Mathlib.Omega.{arith}
use native.Mathlib.Decide.{dec_lt}
use lib.ListN.{length, get_or, set, take}
use lib.Seq.{take-suc, set-set, set-get_or, get_or-set_same, get_or-set_other, take-set-le, take-suc-set, get_or-take}
use Rattle.gf2.specs.Vector.{Row, entry}
use Rattle.gf2.specs.Elimination.{Reduced, pivot, is_zero, count, reduce, add_if, keep_unless}
use Rattle.gf2.specs.Steps.{row_of, Pivots, Reduces, one_more_unless}
use Rattle.gf2.proofs.Reducing.{reduce_snoc, count_append}

-- a row is reduced by one row more
pub reduce_next : (t : List Row) (k : ℕ) (v : Row) (b : Bool) → k < length t → let m : Reduced = reduce (take k t) v in
    b ≡ entry m.left (pivot (row_of t k)) → reduce (take (k + 1) t) v ≡ record { left = add_if b m.left (row_of t k); added = m.added ++ (b ∷ []) }
reduce_next t k v b l e = rw (add-one, take-suc t k [] l, e) (reduce_snoc (take k t) (row_of t k) v)

module _ (t : List Row) (row : ℕ) where
  -- by no rows: nothing changes
  pub reduces_none : Reduces 0 row t t 0
  unfolding reduce count
  reduces_none = record { rows = sym (set-get_or t row []); additions = refl }

  module _ (k : ℕ) (t' : List Row) (n : ℕ) (r : Reduces k row t t' n) (l : row < length t) where
    -- what is left of the row
    pub reduced_row : row_of t' row ≡ (reduce (take k t) (row_of t row)).left
    reduced_row = ap (λ s. row_of s row) r.rows ∙ get_or-set_same t row _ [] l

    -- the other rows are as they were
    other_row : (j : ℕ) → (j ≡ row → ⊥) → row_of t' j ≡ row_of t j
    other_row j h = ap (λ s. row_of s j) r.rows ∙ get_or-set_other t row j _ [] h

    -- by one row more
    pub reduces_next : (b : Bool) (t'' : List Row) → k < row → b ≡ entry (row_of t' row) (pivot (row_of t k))
        → t'' ≡ set t' row (add_if b (row_of t' row) (row_of t' k)) → Reduces (k + 1) row t t'' (n + count (b ∷ []))
    reduces_next b t'' h e f =
        let m : Reduced = reduce (take k t) (row_of t row) in
        let next : reduce (take (k + 1) t) (row_of t row) ≡ record { left = add_if b m.left (row_of t k); added = m.added ++ (b ∷ []) } =
        reduce_next t k (row_of t row) b (omega arith) (e ∙ ap (λ v. entry v (pivot (row_of t k))) reduced_row) in
        record {
          rows = rw next (f ∙ ap₂ (λ v w. set t' row (add_if b v w)) reduced_row (other_row k (λ z. omega arith)) ∙ ap (λ s. set s row (add_if b m.left (row_of t k))) r.rows ∙ set-set t row _ _);
          additions = rw (next, count_append m.added (b ∷ []), r.additions);
        }

-- a row whose pivot is past its end is zero
pub pivot_zero : (v : Row) → length v ≤ pivot v → is_zero v ≡ true
unfolding pivot is_zero
pivot_zero [] h = refl
pivot_zero (true ∷ v) h = absurd (omega arith)
pivot_zero (false ∷ v) h = pivot_zero v (omega arith)

-- a row whose pivot is before its end is not
pub pivot_one : (v : Row) → pivot v < length v → is_zero v ≡ false
unfolding pivot is_zero
pivot_one [] h = absurd (omega arith)
pivot_one (true ∷ v) h = refl
pivot_one (false ∷ v) h = pivot_one v (omega arith)

-- a row behind the first k may change
pub pivots_set : (ps : List ℕ) (t : List Row) (k row : ℕ) (v : Row) (t' : List Row) → t' ≡ set t row v → k ≤ row → Pivots ps t k → Pivots ps t' k
pivots_set ps t k row v t' e h p j l =
    ((p j l).0 ∙ ap pivot (sym (ap (λ s. row_of s j) e ∙ get_or-set_other t row j v [] (omega arith))), (p j l).1)

-- only the first k rows matter
pub pivots_same : (ps : List ℕ) (t : List Row) (k : ℕ) (t' : List Row) → take k t' ≡ take k t → Pivots ps t k → Pivots ps t' k
pivots_same ps t k t' e p j l =
    ((p j l).0 ∙ ap pivot (sym (get_or-take k t j [] l) ∙ ap (λ s. row_of s j) (sym e) ∙ get_or-take k t' j [] l), (p j l).1)

-- one row more has its pivot stored
pub pivots_more : (ps : List ℕ) (t : List Row) (k c : ℕ) → Pivots ps t k → k < length ps → c ≡ pivot (row_of t k) → c < 512 → Pivots (set ps k c) t (k + 1)
pivots_more ps t k c p l e h j i = elim (dec_lt j k) [
  | yes g ↦ let x : get_or (set ps k c) j 0 ≡ get_or ps j 0 = get_or-set_other ps k j c 0 (omega arith) in (x ∙ (p j g).0, rw x (p j g).1)
  | no g ↦
      let y : j ≡ k = omega arith in
      let x : get_or (set ps k c) j 0 ≡ c = ap (λ i. get_or (set ps k c) i 0) y ∙ get_or-set_same ps k c 0 l in
      (x ∙ e ∙ ap (λ i. pivot (row_of t i)) (sym y), rw x h)
]

-- the first members of a list after one was stored behind them, which is kept or not
pub kept_more : {A : Type 0} (b : Bool) (t : List A) (k : ℕ) (v : A) → k < length t → take (one_more_unless b k) (set t k v) ≡ keep_unless b (take k t) v
unfolding keep_unless
kept_more true t k v l = take-set-le k t k v (le_refl k)
kept_more false t k v l = rw add-one (take-suc-set t k v l)

-- the images of a list with one more member, or none
pub keep_map : {A B : Type 0} (f : A → B) (b : Bool) (xs : List A) (x : A) → map f (keep_unless b xs x) ≡ keep_unless b (map f xs) (f x)
unfolding keep_unless
keep_map f true xs x = refl
keep_map f false xs x = map-append f xs (x ∷ [])
