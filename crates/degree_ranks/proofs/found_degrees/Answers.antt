-- The reported degree is the smaller of the sides' own (first_or), where one exists; none counts as n (smaller_counted).
use Rattle.std.proofs.Common.{rules, ◌≡◌, sym, ap₂, ◌∙◌, Bool, ◌||◌, Option, None, Some, unwrap_or, ℕ, ◌+◌, ◌≤◌, min, arith}
use Rattle.std.specs.List.{find}
use Rattle.cube.specs.NumberLists.{below}
use Rattle.matrix.proofs.Rising.{below_rising}
use Rattle.immunity.specs.FirstDegree.{smaller}
use Rattle.immunity.proofs.FirstUpTo.{first_degree, first_or, smaller_counted}
use Rattle.degree_ranks.proofs.found_degrees.Goals as goal

-- the first degree that passes, or n for none, is at most n
counted : (t : ℕ → Bool) (n : ℕ) (x : Option ℕ) → x ≡ find t (below (n + 1)) → unwrap_or x n ≤ n
counted t n None e = omega arith
counted t n (Some d) e = ((first_degree t n d).0 (sym e)).within

-- the smaller of two such degrees
module _ (t u : ℕ → Bool) (n : ℕ) {x y : Option ℕ} (e : x ≡ find t (below (n + 1))) (h : y ≡ find u (below (n + 1)))
    {r : ℕ} (is : r ≡ min (unwrap_or x n) (unwrap_or y n))
  where
    -- is the first that passes either test, where there is one
    first-of-both : (k : ℕ) → find (λ d. t d || u d) (below (n + 1)) ≡ Some k → r ≡ k
    first-of-both k q =
        is ∙ smaller_counted n x y (counted t n x e) (counted u n y h) k (ap₂ smaller e h ∙ sym (first_or t u (below (n + 1)) (below_rising (n + 1))) ∙ q)

    -- and at most n
    low : r ≤ n
    low = omega (arith, is, counted t n x e)

pub returns : goal.returns
returns c =
    let found = c.min.ensures ∙ ap₂ min c.unwrap_or.ensures c.unwrap_or-2.ensures in
    record {
      own_degrees = search rules;
      reported_first = first-of-both _ _ _ c.side_degree-one.ensures c.side_degree-zero.ensures found;
      reported_at_most_n = low _ _ _ c.side_degree-one.ensures c.side_degree-zero.ensures found;
      mark = search rules;
    }
