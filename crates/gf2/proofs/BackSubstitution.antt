-- Back substitution: the one row at the pivots of an echelon list that has given parities against its rows.
--   flip_same              the entry at the changed column
--   flip_other             the entries at other columns stay
--   dot_flip               the parities where one column is changed
--   flip_later             the parities with rows that are zero at the changed column stay
--   solve_dots             the parities of solve are those asked for
--   solve_pivots           the ones of solve stand at pivots
--   pivots_zero            a row at pivots with no odd parity is zero
--   pivots_unique          a row at pivots is known by its parities
--   solve_last_separates   solve_last is odd with the last row only
--   solve_last_pivots      the ones of solve_last stand at pivots
--   solve_last_unique      solve_last is the only row at pivots that is odd with the last row only
--   solve_last_padded      rows continued by zeros have the same solution
--   solve_last_first       for no rows before the last: a zero row, its pivot changed
--   solve_last_next        for one row more, in front: its pivot is changed where its parity is odd; only the entries matter
use mathlib.Core.Path.{◌≡◌, refl, sym, ap, ◌∙◌}
use mathlib.Core.Logic.{◌≢◌, ⊎_elim}
use mathlib.Core.Bool.{Bool, true, false, xor, ◌&&◌, and-true, and-false, false≢true}
use mathlib.Core.List.Memᴰ
use mathlib.Core.List.{List, [], ◌∷◌, ◌++◌, map, map-append, Memᴰ}
use Prim.Native.Nat.{ℕ}
use native.Mathlib.Decide.{ℕ_discrete}
use native.Mathlib.Omega.{arith}
use lib.ListN.{length, replicate, length-append, length-replicate, length-map}
use Rattle.gf2.specs.Vector.{Row, entry, add, dot, unit, Zero, Same, OnlyAt, Each, Orthogonal, Separates}
use Rattle.gf2.specs.Elimination.{pivot, Echelon}
use Rattle.gf2.specs.Cut.{padded}
use Rattle.gf2.specs.Solve.{flip, solve, solve_last}
use Rattle.gf2.proofs.Bits.{bits, xor_false, false_xor, xor_self, xor_equal, xor_true, not_one}
use Rattle.gf2.proofs.Each.{each_map, each_map₂, each_append, map_each}
use Rattle.gf2.proofs.Padded.{Fits, entry_padded, pivot_padded}
use Rattle.gf2.proofs.Dot.{entry_add, add_dot, dot_comm, dot_zero, dot_unit, entry_unit, entry_unit_other, linear_same, dot_linear}

module _ (b : Bool) (x : Row) (c : ℕ) where
  -- the entries where column c is changed, or nothing
  entry_flip : (d : ℕ) → entry (flip b x c) d ≡ xor (entry x d) (b && entry (unit c) d)
  unfolding flip
  entry_flip d = elim b as (λ k. entry (flip k x c) d ≡ xor (entry x d) (k && entry (unit c) d)) [ true ↦ entry_add x (unit c) d | false ↦ rw xor_false ]

  -- the entry at the changed column
  pub flip_same : entry (flip b x c) c ≡ xor (entry x c) b
  flip_same = simp (entry_flip, entry_unit, and-true)

  -- the entries at other columns stay
  pub flip_other : (d : ℕ) → c ≢ d → entry (flip b x c) d ≡ entry x d
  flip_other d ne = simp (entry_flip, entry_unit_other c d ne, and-false, xor_false)

  -- the parities where one column is changed
  pub dot_flip : (w : Row) → dot (flip b x c) w ≡ xor (dot x w) (b && entry w c)
  unfolding flip
  dot_flip w = elim b as (λ k. dot (flip k x c) w ≡ xor (dot x w) (k && entry w c)) [ true ↦ simp (add_dot, dot_unit) | false ↦ rw xor_false ]

  -- the parities with rows that are zero at the changed column stay
  pub flip_later : (rs : List Row) → Each (λ s. entry s c ≡ false) rs → Each (λ s. dot (flip b x c) s ≡ dot x s) rs
  flip_later rs zs = each_map (λ s e. simp (dot_flip, e, and-false, xor_false)) rs zs

-- the parities of solve are those asked for
pub solve_dots : (kept : List Row) → Echelon kept → (bs : List Bool) → length bs ≡ length kept → map (dot (solve kept bs)) kept ≡ bs
unfolding solve
solve_dots [] ech [] e = refl
solve_dots [] ech (b ∷ bs) e = absurd (omega arith)
solve_dots (r ∷ kept) ech [] e = absurd (omega arith)
solve_dots (r ∷ kept) ech (b ∷ bs) e =
    let x : Row = solve kept bs in
    let d : Bool = xor b (dot x r) in
    let first : dot (flip d x (pivot r)) r ≡ b = simp (dot_flip, ech.0, and-true, bits) in
    cc (solve_dots kept ech.2 bs (omega arith), map_each _ _ kept (flip_later d x (pivot r) kept ech.1), first)

-- the ones of solve stand at pivots
pub solve_pivots : (kept : List Row) (bs : List Bool) → OnlyAt (map pivot kept) (solve kept bs)
unfolding solve
solve_pivots [] bs c e = absurd (false≢true e)
solve_pivots (r ∷ kept) [] c e = absurd (false≢true e)
solve_pivots (r ∷ kept) (b ∷ bs) c e = go (ℕ_discrete (pivot r) c) (solve_pivots kept bs c)
  where
    x : Row
    x = solve kept bs

    go : Dec (pivot r ≡ c) → (entry x c ≡ true → Memᴰ c (map pivot kept)) → Memᴰ c (map pivot (r ∷ kept))
    go (yes p) below = Memᴰ.head (sym p)
    go (no ne) below = Memᴰ.tail (below (sym (flip_other (xor b (dot x r)) x (pivot r) c ne) ∙ e))

-- a row at pivots with no odd parity is zero
pub pivots_zero : (kept : List Row) → Echelon kept → (x : Row) → OnlyAt (map pivot kept) x → Orthogonal x kept → Zero x
pivots_zero [] ech x at zs c = not_one (entry x c) (λ e. Memᴰ.not-nil (at c e))
pivots_zero (r ∷ kept) ech x at zs c = end (ℕ_discrete (pivot r) c) (pivots_zero kept ech.2 y (λ d e. at_rest d e (ℕ_discrete (pivot r) d)) zs_rest)
  where
    b : Bool
    b = entry x (pivot r)

    y : Row
    y = flip b x (pivot r)

    at_rest : (d : ℕ) → entry y d ≡ true → Dec (pivot r ≡ d) → Memᴰ d (map pivot kept)
    at_rest d e (yes p) = absurd (false≢true (sym (flip_same b x (pivot r) ∙ xor_self b) ∙ ap (entry y) p ∙ e))
    at_rest d e (no ne) = ⊎_elim (λ p. absurd (ne (sym p))) (λ m. m) (Memᴰ.cases_cons (at d (sym (flip_other b x (pivot r) d ne) ∙ e)))

    zs_rest : Orthogonal y kept
    zs_rest = each_map₂ (λ s e z. e ∙ z) kept (flip_later b x (pivot r) kept ech.1) zs.1

    end : Dec (pivot r ≡ c) → Zero y → entry x c ≡ false
    end (yes p) z = rw (← p) (sym (dot_flip b x (pivot r) r ∙ simp (zs.0, ech.0, and-true, false_xor)) ∙ dot_comm y r ∙ dot_zero r y z)
    end (no ne) z = sym (flip_other b x (pivot r) c ne) ∙ z c

-- a row at pivots is known by its parities
pub pivots_unique : (kept : List Row) → Echelon kept → (x y : Row) → OnlyAt (map pivot kept) x → OnlyAt (map pivot kept) y
    → Each (λ r. dot x r ≡ dot y r) kept → Same x y
pivots_unique kept ech x y at_x at_y es c = xor_equal _ _ (sym (entry_add x y c) ∙ pivots_zero kept ech (add x y) at zs c)
  where
    at : OnlyAt (map pivot kept) (add x y)
    at d e = ⊎_elim (at_x d) (at_y d) (xor_true (entry x d) (entry y d) (sym (entry_add x y d) ∙ e))

    zs : Orthogonal (add x y) kept
    zs = each_map (λ r e. simp (add_dot, e, bits)) kept es

-- parities that are odd at the end only
separates_last : (rs : List Row) (v x : Row) → map (dot x) (rs ++ (v ∷ [])) ≡ replicate (length rs) false ++ (true ∷ []) → Separates rs v x
separates_last [] v x e = (tt, cc)
separates_last (r ∷ rs) v x e = let (zs, one) = separates_last rs v x (cc) in ((cc, zs), one)

module _ (rs : List Row) (v : Row) (ech : Echelon (rs ++ (v ∷ []))) where
  -- solve_last is odd with the last row only
  pub solve_last_separates : Separates rs v (solve_last rs v)
  solve_last_separates =
      let bs : List Bool = replicate (length rs) false ++ (true ∷ []) in
      separates_last rs v (solve_last rs v) (solve_dots (rs ++ (v ∷ [])) ech bs (simp (length-append, length-replicate)))

  -- the ones of solve_last stand at pivots
  pub solve_last_pivots : OnlyAt (map pivot (rs ++ (v ∷ []))) (solve_last rs v)
  solve_last_pivots = solve_pivots (rs ++ (v ∷ [])) (replicate (length rs) false ++ (true ∷ []))

  -- solve_last is the only row at pivots that is odd with the last row only
  pub solve_last_unique : (x : Row) → OnlyAt (map pivot (rs ++ (v ∷ []))) x → Separates rs v x → Same x (solve_last rs v)
  solve_last_unique x at odd = pivots_unique (rs ++ (v ∷ [])) ech x (solve_last rs v) at solve_last_pivots same
    where
      same : Each (λ r. dot x r ≡ dot (solve_last rs v) r) (rs ++ (v ∷ []))
      same = each_append (λ r. dot x r ≡ dot (solve_last rs v) r) rs (v ∷ [])
          (each_map₂ (λ r p q. p ∙ sym q) rs odd.0 solve_last_separates.0) (odd.1 ∙ sym solve_last_separates.1, tt)

-- only the entries matter where a column is changed, or not, by the parity with a row
flip_dot_same : (x y r s : Row) (b : Bool) (c : ℕ) → Same x y → Same r s → Same (flip (xor b (dot x r)) x c) (flip (xor b (dot y s)) y c)
flip_dot_same x y r s b c h g d =
    let same : dot x r ≡ dot y s = linear_same (dot_linear x) r s g ∙ dot_comm x s ∙ linear_same (dot_linear s) x y h ∙ dot_comm s y in
    entry_flip (xor b (dot x r)) x c d ∙ rw (h d, same) (sym (entry_flip (xor b (dot y s)) y c d))

-- the same for rows continued by zeros
solve_padded : (m : ℕ) (rs : List Row) (bs : List Bool) → Each (Fits m) rs → Same (solve (map (padded m) rs) bs) (solve rs bs)
unfolding solve
solve_padded m [] bs f c = refl
solve_padded m (r ∷ rs) [] f c = refl
solve_padded m (r ∷ rs) (b ∷ bs) f c =
    rw (pivot_padded m r f.0)
    (flip_dot_same (solve (map (padded m) rs) bs) (solve rs bs) (padded m r) r b (pivot r) (solve_padded m rs bs f.1) (λ d. entry_padded m r d f.0.0) c)

-- rows continued by zeros have the same solution
pub solve_last_padded : (m : ℕ) (rs : List Row) (v : Row) → Each (Fits m) rs → Fits m v → Same (solve_last (map (padded m) rs) (padded m v)) (solve_last rs v)
solve_last_padded m rs v f g c =
    rw (length-map rs (padded m), ← map-append (padded m) rs (v ∷ []))
    (solve_padded m (rs ++ (v ∷ [])) (replicate (length rs) false ++ (true ∷ [])) (each_append (Fits m) rs (v ∷ []) f (g, tt)) c)

-- for no rows before the last: a zero row, its pivot changed
pub solve_last_first : (x v : Row) → Zero x → Same (flip true x (pivot v)) (solve_last [] v)
unfolding solve flip dot xor add
solve_last_first x v z c = entry_add x (unit (pivot v)) c ∙ simp (z c, false_xor)

-- for one row more, in front: its pivot is changed where its parity is odd
pub solve_last_next : (x r : Row) (rs : List Row) (v : Row) (b : Bool) → Same x (solve_last rs v) → b ≡ dot x r
    → Same (flip b x (pivot r)) (solve_last (r ∷ rs) v)
unfolding solve
solve_last_next x r rs v b h e c =
    let y : Row = solve_last rs v in
    ap (λ z. entry (flip z x (pivot r)) c) (e ∙ sym (false_xor (dot x r))) ∙ flip_dot_same x y r r false (pivot r) h (λ d. refl) c
