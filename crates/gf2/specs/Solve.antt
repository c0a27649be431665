-- Rows with given parities against the rows of an echelon list, by back substitution.
--   flip b x c         column c of x is changed, or nothing
--   solve kept bs      the row, one only at pivots of kept rows, whose parities with the kept rows are bs
--   solve_last rs v    the same for the rows rs and v: even with each of rs, odd with v
--   witness row ps a   even with the row of each of the points ps, odd with the row of a, where that is no sum of theirs
use Rattle.std.specs.Prelude.{Bool, true, false, List, [], ◌∷◌, ◌++◌, ℕ, length, replicate}
use Rattle.std.specs.Bool.{xor}
use Rattle.gf2.specs.Vector.{Row, add, dot, unit}
use Rattle.gf2.specs.Elimination.{pivot, reduce, Elimination, eliminate}

-- column c is changed, or nothing
unfoldable pub flip : Bool → Row → ℕ → Row
flip true x c = add x (unit c)
flip false x c = x

-- from the last row to the first: the row's pivot is changed where the parity is not the one asked for
unfoldable pub solve : List Row → List Bool → Row
solve [] bs = []
solve (r ∷ rs) [] = []
solve (r ∷ rs) (b ∷ bs) =
    let x : Row = solve rs bs in
    flip (xor b (dot x r)) x (pivot r)

-- even with each row of the list, odd with the one behind it
abbrev pub solve_last : List Row → Row → Row
solve_last rs v = solve (rs ++ (v ∷ [])) (replicate (length rs) false ++ (true ∷ []))

-- even with the rows of the points ps, odd with the row of a: what is solved for is what elimination keeps of ps, and leaves of a
abbrev pub witness : (ℕ → Row) → List ℕ → ℕ → Row
witness row ps a =
    let e : Elimination = eliminate row ps in
    solve_last e.kept (reduce e.kept (row a)).left
