-- The rows of points are put in their places in the workspace, from the last point down.
--   filled_from us n t a   the rows t with those of the points from a on in their places
--   filled_none           no row is written yet
--   filled_all            all are
--   filled_next           one point's row more
--   filled_there          those rows are found in their places
--   filled_row            so is the row of each point when all are
use mathlib.Core.Path.{◌≡◌, refl, sym, ap, ap₂, ◌∙◌}
use mathlib.Core.List.{List, [], ◌∷◌, ◌++◌, map}
use Prim.Native.Nat.{ℕ, suc, ◌+◌, ◌-◌, ◌≤◌, ◌<◌}
use native.Mathlib.Numerals.{add-one}
use native.Mathlib.Omega.{arith}
use lib.ListN.{length, set, take, drop, length-drop, length-map, take-append-drop, get_or-append}
use lib.Pow.{pow_mono}
use lib.Seq.{take-suc, drop-cons, drop-length, set_at, append_snoc, length-take-le, get_or-append-add, get_or-drop}
use Rattle.cube.specs.NumberLists.{below}
use Rattle.cube.specs.Cube.{size}
use Rattle.cube.proofs.Masks.{length_from, value_at}
use Rattle.gf2.specs.Vector.{Row}
use Rattle.gf2.specs.Steps.{row_of}
use Rattle.point_rows.specs.Rows.{monomials}
use Rattle.point_rows.specs.Workspace.{filled, RowsFrom}

module _ (us : List ℕ) (n : ℕ) where
  -- the rows of all points
  abbrev all_rows : List Row
  all_rows = map (monomials us) (below (size n))

  -- there are N
  length_all : length all_rows ≡ size n
  length_all = length-map (below (size n)) (monomials us) ∙ length_from 0 (size n)

  -- the rows t with those of the points from a on in their places
  abbrev pub filled_from : List Row → ℕ → List Row
  filled_from t a = take (512 + a) t ++ (drop a all_rows ++ drop (512 + size n) t)

  -- no row is written yet
  pub filled_none : (t : List Row) → t ≡ filled_from t (size n)
  filled_none t =
      let behind : List Row = drop (512 + size n) t in
      let none : drop (size n) all_rows ≡ [] = ap (λ m. drop m all_rows) (sym length_all) ∙ drop-length all_rows in
      sym (ap (λ l. take (512 + size n) t ++ (l ++ behind)) none ∙ take-append-drop (512 + size n) t)

  -- all are
  pub filled_all : (t : List Row) → filled_from t 0 ≡ filled us n t
  unfolding filled
  filled_all t = refl

  module _ (s : n ≤ 9) (t : List Row) (l : length t ≡ 1024) where
    -- one point's row more
    pub filled_next : (t' t'' : List Row) (a : ℕ) → a < size n → t' ≡ filled_from t (a + 1) → t'' ≡ set t' (512 + a) (monomials us a) → t'' ≡ filled_from t a
    filled_next t' t'' a h e f =
        let before : List Row = take (512 + a) t in
        let behind : List Row = drop (512 + size n) t in
        let after : List Row = drop (a + 1) all_rows in
        let m : 512 + (a + 1) ≡ suc (512 + a) = omega arith in
        let next : take (512 + (a + 1)) t ≡ before ++ (row_of t (512 + a) ∷ []) =
        ap (λ k. take k t) m ∙ take-suc t (512 + a) [] (omega (arith, pow_mono s)) in
        let there : t' ≡ before ++ (row_of t (512 + a) ∷ (after ++ behind)) =
        e ∙ ap (λ p. p ++ (after ++ behind)) next ∙ append_snoc before (row_of t (512 + a)) (after ++ behind) in
        let rest : monomials us a ∷ after ≡ drop a all_rows =
        ap₂ (λ r k. r ∷ drop k all_rows) (sym (value_at (monomials us) (size n) a [] h)) (add-one a) ∙ sym (drop-cons all_rows a [] (rw length_all h)) in
        f ∙ ap (λ x. set x (512 + a) (monomials us a)) there
        ∙ set_at before (row_of t (512 + a)) (after ++ behind) (monomials us a) (512 + a) (length-take-le (512 + a) t (omega (arith, pow_mono s)))
        ∙ ap (λ x. before ++ (x ++ behind)) rest

    -- those rows are found in their places
    pub filled_there : (a : ℕ) → a ≤ size n → RowsFrom us n (filled_from t a) a
    filled_there a h j from to =
        let first : length (take (512 + a) t) ≡ 512 + a = length-take-le (512 + a) t (omega (arith, pow_mono s)) in
        let e : 512 + j ≡ length (take (512 + a) t) + (j - a) = omega arith in
        let m : length (drop a all_rows) ≡ size n - a = length-drop a all_rows ∙ ap (λ k. k - a) length_all in
        let back : a + (j - a) ≡ j = omega arith in
        ap (row_of (filled_from t a)) e ∙ get_or-append-add (take (512 + a) t) _ (j - a) []
        ∙ get_or-append (drop a all_rows) (drop (512 + size n) t) [] (j - a) (omega arith)
        ∙ get_or-drop a all_rows (j - a) [] ∙ ap (row_of all_rows) back ∙ value_at (monomials us) (size n) j [] to

    -- so is the row of each point when all are
    pub filled_row : (a : ℕ) → a < size n → row_of (filled us n t) (512 + a) ≡ monomials us a
    filled_row a h = ap (λ x. row_of x (512 + a)) (sym (filled_all t)) ∙ filled_there 0 (omega arith) a (omega arith) h
