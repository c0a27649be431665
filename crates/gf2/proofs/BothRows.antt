-- The rows of the workspace while a row is reduced and a second row follows it.
--   places_rows   the rows at places stay where all rows from 512 on but one do
--   both_none     by no rows: nothing changes
--   both_left     what is left of the row
--   both_sum      what the second row is
--   both_front    the rows before the second row: only the first has changed
--   both_other    the other rows are as they were
--   both_next     by one row more
use mathlib.Core.Path.{◌≡◌, refl, sym, ap, ap₂, ◌∙◌}
use mathlib.Core.Logic.{◌≢◌}
use mathlib.Core.Bool.{Bool, true, false}
use mathlib.Core.List.{List, [], ◌∷◌, ◌++◌, map, map-append}
use Prim.Native.Nat.{ℕ, ◌+◌, ◌≤◌, ◌<◌}
use native.Mathlib.Numerals.{add-one}
use native.Mathlib.Omega.{arith}
use lib.ListN.{length, get_or, set, take, length-map}
use lib.Seq.{lt-length-set, take-suc, set-set, set_comm, set-get_or, get_or-set_same, get_or-set_other, take-set-le, length-take-le}
use Rattle.gf2.specs.Vector.{Row, entry, add, total, chosen}
use Rattle.gf2.specs.Elimination.{Reduced, pivot, add_if, reduce}
use Rattle.gf2.specs.Steps.{row_of, Places, reduced_both}
use Rattle.gf2.proofs.Each.{each_taken, map_each}
use Rattle.gf2.proofs.Dot.{add_nil, add_assoc}
use Rattle.gf2.proofs.Chosen.{total_snoc}
use Rattle.gf2.proofs.Reducing.{reduce_length}
use Rattle.gf2.proofs.Steps.{reduce_next}

-- a row is added, or not, to the second of two terms
add_add_if : (b : Bool) (u v w : Row) → add_if b (add u v) w ≡ add u (add_if b v w)
unfolding add_if
add_add_if true u v w = add_assoc u v w
add_add_if false u v w = refl

-- the rows at places stay where all rows from 512 on but one do
pub places_rows : (ps : List ℕ) (k s : ℕ) (t t' : List Row) → k ≤ length ps → Places ps k s → ((j : ℕ) → 512 ≤ j → j ≢ s → row_of t' j ≡ row_of t j)
    → map (row_of t') (take k ps) ≡ map (row_of t) (take k ps)
places_rows ps k s t t' l h e =
    map_each (row_of t') (row_of t) (take k ps) ((each_taken (λ p. row_of t' p ≡ row_of t p) 0 k ps l).1 (λ j i. e (get_or ps j 0) (h j i).0 (h j i).2))

module _ (row s : ℕ) (ps : List ℕ) (t : List Row) where
  -- the row after it was reduced by the first k rows
  abbrev left : ℕ → Row
  left k = (reduce (take k t) (row_of t row)).left

  -- what is then added to the second row
  abbrev added : ℕ → Row
  added k = total (chosen (reduce (take k t) (row_of t row)).added (map (row_of t) (take k ps)))

  -- by no rows: nothing changes
  pub both_none : reduced_both 0 row s ps t ≡ t
  unfolding reduced_both reduce chosen total
  both_none = ap₂ (λ (x : List Row) v. set x s v) (set-get_or t row []) (add_nil (row_of t s)) ∙ set-get_or t s []

  module _ (k : ℕ) where
    -- what is left of the row
    pub both_left : row ≢ s → row < length t → row_of (reduced_both k row s ps t) row ≡ left k
    unfolding reduced_both
    both_left apart l = get_or-set_other (set t row (left k)) s row (add (row_of t s) (added k)) [] apart ∙ get_or-set_same t row (left k) [] l

    -- what the second row is
    pub both_sum : s < length t → row_of (reduced_both k row s ps t) s ≡ add (row_of t s) (added k)
    unfolding reduced_both
    both_sum m = get_or-set_same (set t row (left k)) s (add (row_of t s) (added k)) [] (lt-length-set t row (left k) m)

    -- before the second row only the first has changed
    pub both_front : (n : ℕ) → n ≤ s → take n (reduced_both k row s ps t) ≡ take n (set t row (reduce (take k t) (row_of t row)).left)
    unfolding reduced_both
    both_front n h = take-set-le n (set t row (left k)) s (add (row_of t s) (added k)) h

    -- the other rows are as they were
    pub both_other : (j : ℕ) → j ≢ row → j ≢ s → row_of (reduced_both k row s ps t) j ≡ row_of t j
    unfolding reduced_both
    both_other j g h = get_or-set_other (set t row (left k)) s j (add (row_of t s) (added k)) [] h ∙ get_or-set_other t row j (left k) [] g

    -- by one row more
    pub both_next : (b : Bool) (p : ℕ) (now t' t'' : List Row) → row ≢ s → row < length t → s < length t → k < row → k ≢ s → k < length ps → p ≡ get_or ps k 0 → p ≢ row → p ≢ s
        → now ≡ reduced_both k row s ps t → b ≡ entry (row_of now row) (pivot (row_of t k))
        → t' ≡ set now row (add_if b (row_of now row) (row_of now k)) → t'' ≡ set t' s (add_if b (row_of t' s) (row_of t' p))
        → t'' ≡ reduced_both (k + 1) row s ps t
    unfolding reduced_both
    both_next b p now t' t'' apart l m h u n f g i is e x y =
        let w : Row = add_if b (left k) (row_of t k) in
        let old : Row = add (row_of t s) (added k) in
        let v : Row = add_if b old (row_of t p) in
        let r : Reduced = reduce (take k t) (row_of t row) in
        let here : row_of now row ≡ left k = ap (λ z. row_of z row) is ∙ both_left apart l in
        let q : reduce (take (k + 1) t) (row_of t row) ≡ record { left = w; added = r.added ++ (b ∷ []) } =
        reduce_next t k (row_of t row) b (omega arith) (e ∙ ap (λ z. entry z (pivot (row_of t k))) here) in
        let first : t' ≡ set (set t row w) s old =
        x
        ∙ ap₂ (λ a z. set now row (add_if b a z)) here (ap (λ z. row_of z k) is ∙ both_other k (omega arith) u)
        ∙ ap (λ (z : List Row). set z row w) is
        ∙ set_comm (set t row (left k)) s row old w (λ z. apart (sym z))
        ∙ ap (λ (z : List Row). set z s old) (set-set t row (left k) w) in
        let there : row_of t' s ≡ old = ap (λ z. row_of z s) first ∙ get_or-set_same (set t row w) s old [] (lt-length-set t row w m) in
        let place : row_of t' p ≡ row_of t p = ap (λ z. row_of z p) first ∙ get_or-set_other (set t row w) s p old [] i ∙ get_or-set_other t row p w [] g in
        let second : t'' ≡ set (set t row w) s v =
        y ∙ ap₂ (λ a z. set t' s (add_if b a z)) there place ∙ ap (λ (z : List Row). set z s v) first ∙ set-set (set t row w) s old v in
        let rows : map (row_of t) (take (k + 1) ps) ≡ map (row_of t) (take k ps) ++ (row_of t p ∷ []) =
        ap (λ z. map (row_of t) (take z ps)) (add-one k) ∙ ap (map (row_of t)) (take-suc ps k 0 n) ∙ map-append (row_of t) (take k ps) (get_or ps k 0 ∷ []) ∙ rw f in
        let long : length r.added ≡ length (map (row_of t) (take k ps)) =
        reduce_length (take k t) (row_of t row) ∙ length-take-le k t (omega arith) ∙ sym (length-map (take k ps) (row_of t) ∙ length-take-le k ps (omega arith)) in
        let sums : v ≡ add (row_of t s) (total (chosen (r.added ++ (b ∷ [])) (map (row_of t) (take k ps) ++ (row_of t p ∷ [])))) =
        add_add_if b (row_of t s) (added k) (row_of t p) ∙ ap (add (row_of t s)) (sym (total_snoc r.added b (map (row_of t) (take k ps)) (row_of t p) long)) in
        second ∙ ap (set (set t row w) s) sums ∙ rw (q, rows)
