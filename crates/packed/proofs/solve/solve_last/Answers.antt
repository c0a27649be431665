-- The loop's invariant: x has the entries of the solution for the kept rows from row j on; solve_last_next puts one row more in front.
use mathlib.Core.Path.{◌≡◌, refl, sym, ap, ap₂, ◌∙◌, subst}
use mathlib.Core.Bool.{Bool, true, false}
use mathlib.Core.List.{List, [], ◌∷◌}
use Prim.Native.Nat.{ℕ, zero, suc, ◌-◌, ◌<◌, ◌≤◌}
use native.Mathlib.Omega.{arith}
use lib.ListN.{length, get_or, take, drop, replicate, drop_of_length-le, length-map}
use lib.Seq.{drop-cons, get_or-take, length-take-le}
use Rattle.gf2.specs.Vector.{Row, entry, dot, Same}
use Rattle.gf2.specs.Elimination.{pivot}
use Rattle.gf2.specs.Steps.{row_of}
use Rattle.gf2.specs.Solve.{flip}
use Rattle.gf2.proofs.BackSubstitution.{solve_last_first, solve_last_next}
use Rattle.packed.specs.Packed.{unpack, unpacked}
use Rattle.packed.proofs.Rows.{row_at}
use Rattle.packed.proofs.Words.{unpack_zero}
use Rattle.packed.proofs.solve.solve_last.Invariants.{from}
use Rattle.packed.proofs.solve.solve_last.Goals as goal

-- a row of zeros
entry-replicate : (n c : ℕ) → entry (replicate n false) c ≡ false
entry-replicate zero c = refl
entry-replicate (suc n) zero = refl
entry-replicate (suc n) (suc c) = entry-replicate n c

module _ (ws : List (List ℕ)) (kept : ℕ) (inside : kept ≤ length ws) where
  -- the rows of the workspace
  abbrev t : List Row
  t = unpacked ws

  -- there are the kept rows
  long : length (take kept t) ≡ kept
  long = length-take-le kept t (rw length-map inside)

  -- for no kept rows
  begun : (x : Row) (c : ℕ) → x ≡ flip true (unpack (replicate 8 0)) c → c ≡ pivot (row_of t kept)
      → Same x (from t kept kept)
  begun x c f g =
      let none : drop kept (take kept t) ≡ [] = drop_of_length-le (take kept t) {i = kept} (omega (arith, long)) in
      rw (f, g, none) (solve_last_first (unpack (replicate 8 0)) (row_of t kept) (λ d. ap (λ v. entry v d) unpack_zero ∙ entry-replicate 512 d))

  -- for one row more
  next : (x y : Row) (b : Bool) (j : ℕ) → 0 < j → j ≤ kept → Same x (from t kept j)
      → b ≡ dot x (unpack (get_or ws (j - 1) [])) → y ≡ flip b x (pivot (row_of t (j - 1)))
      → Same y (from t kept (j - 1))
  next x y b j h k s e f =
      let i : suc (j - 1) ≡ j = omega arith in
      let more : drop (j - 1) (take kept t) ≡ row_of t (j - 1) ∷ drop j (take kept t) =
      drop-cons (take kept t) (j - 1) [] (omega (arith, long))
      ∙ ap₂ (λ r n. r ∷ drop n (take kept t)) (get_or-take kept t (j - 1) [] (omega arith)) i in
      rw (f, more) (solve_last_next x (row_of t (j - 1)) (drop j (take kept t)) (row_of t kept) b s (e ∙ ap (dot x) (sym (row_at ws (j - 1) (omega arith)))))

pub loop-j-init : goal.loop-j-init
loop-j-init c = begun c.args.ws.now c.args.kept (omega arith) _ _ c.flip_column.ensures (c.requires.1 c.args.kept (omega arith)).0

pub loop-j-preserved-then-dot : goal.loop-j-preserved-then-dot
loop-j-preserved-then-dot c =
    let j = c.loop-j.j in
    next c.args.ws.now c.args.kept (omega arith) (unpack c.loop-j.x) _ true j c.loop-j-test.true c.loop-j.auto.j c.loop-j.invariant c.if-dot.ensures
    (c.flip_column-then-dot.ensures ∙ ap (flip true (unpack c.loop-j.x)) (c.requires.1 (j - 1) (omega arith)).0)

pub loop-j-preserved : goal.loop-j-preserved
unfolding flip
loop-j-preserved c =
    next c.args.ws.now c.args.kept (omega arith) (unpack c.loop-j.x) _ false c.loop-j.j c.loop-j-test.true c.loop-j.auto.j c.loop-j.invariant c.if-dot.ensures refl

pub returns : goal.returns
returns c =
    let e : c.loop-j.j ≡ 0 = omega arith in
    subst (λ j. Same (unpack c.loop-j.x) (from (unpacked c.args.ws.now) c.args.kept j)) e c.loop-j.invariant
