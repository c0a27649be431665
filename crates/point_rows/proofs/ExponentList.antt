-- The exponents of n taps, by the places of a graded order.
--   first_exponents o n i     the exponents of n taps among the first i of the order
--   Found o n i count list    they are `count`, and with what fills up they are the list
--   found_none                none is yet
--   found_yes                 the next of the order is one
--   found_no                  the next of the order is none
--   found_all                 all are found
use mathlib.Core.Path.{◌≡◌, refl, sym, ap, ap₂, ◌∙◌}
use mathlib.Core.List.{List, [], ◌∷◌, ◌++◌}
use Prim.Native.Nat.{ℕ, suc, ◌+◌, ◌-◌, ◌≤◌, ◌<◌}
use native.Mathlib.Omega.{arith}
use lib.Dec.{ltb}
use lib.ListN.{length, get_or, set, take, replicate, length-append}
use lib.Seq.{take_all, set-append_seam, append_snoc}
use borrow.Author.Tests.{lt-ltb, le-ltb}
use Rattle.cube.specs.NumberLists.{select}
use Rattle.cube.specs.Cube.{size}
use Rattle.cube.proofs.Listed.{select_take_yes, select_take_no}
use Rattle.order.specs.Order.{Graded}
use Rattle.point_rows.specs.Workspace.{fill_to_512, exponents}

-- the exponents of n taps among the first i of the order
abbrev pub first_exponents : List ℕ → ℕ → ℕ → List ℕ
first_exponents o n i = select (λ u. ltb u (size n)) (take i o)

-- they are `count`, and with what fills up they are the list
pub record Found (o : List ℕ) (n i count : ℕ) (list : List ℕ) : Type 0 where
  pub few : count ≤ i
  pub counted : count ≡ length (first_exponents o n i)
  pub listed : list ≡ fill_to_512 (first_exponents o n i)

-- none is yet
pub found_none : (o : List ℕ) (n : ℕ) → Found o n 0 0 (replicate 512 65535)
unfolding select
found_none o n = record { few = omega arith; counted = refl; listed = refl }

-- one number more, before what fills up
fill_next : (us : List ℕ) (x : ℕ) → length us < 512 → set (fill_to_512 us) (length us) x ≡ fill_to_512 (us ++ (x ∷ []))
fill_next us x h =
    let e : 512 - length us ≡ suc (512 - (length us + 1)) = omega arith in
    let f : 512 - length (us ++ (x ∷ [])) ≡ 512 - (length us + 1) = rw length-append (omega arith) in
    ap (λ m. set (us ++ replicate m 65535) (length us) x) e ∙ set-append_seam us 65535 _ x
    ∙ sym (append_snoc us x _) ∙ ap (λ m. (us ++ (x ∷ [])) ++ replicate m 65535) (sym f)

module _ {o : List ℕ} (g : Graded o) {n i count : ℕ} {list : List ℕ} (f : Found o n i count list) where
  -- the next of the order is one
  pub found_yes : i < 512 → get_or o i 0 < size n → Found o n (i + 1) (count + 1) (set list count (get_or o i 0))
  found_yes h l =
      let us : List ℕ = first_exponents o n i in
      let x : ℕ = get_or o i 0 in
      let next : first_exponents o n (i + 1) ≡ us ++ (x ∷ []) = select_take_yes (λ u. ltb u (size n)) o i (rw g.long h) (lt-ltb x (size n) l) in
      let few : length us < 512 = omega (arith, f.few, f.counted) in
      record {
        few = omega (arith, f.few);
        counted = ap (λ k. k + 1) f.counted ∙ sym (ap length next ∙ length-append us (x ∷ []));
        listed = ap₂ (λ ys k. set ys k x) f.listed f.counted ∙ fill_next us x few ∙ ap fill_to_512 (sym next);
      }

  -- the next of the order is none
  pub found_no : i < 512 → size n ≤ get_or o i 0 → Found o n (i + 1) count list
  found_no h l =
      let next : first_exponents o n (i + 1) ≡ first_exponents o n i = select_take_no (λ u. ltb u (size n)) o i (rw g.long h) (le-ltb (get_or o i 0) (size n) l) in
      record { few = omega (arith, f.few); counted = f.counted ∙ ap length (sym next); listed = f.listed ∙ ap fill_to_512 (sym next) }

  -- all are found
  pub found_all : 512 ≤ i → list ≡ exponents o n
  unfolding exponents
  found_all h = f.listed ∙ ap (λ us. fill_to_512 (select (λ u. ltb u (size n)) us)) (take_all i o (omega (arith, g.long)))
