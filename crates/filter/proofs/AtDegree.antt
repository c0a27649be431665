-- A filter at a degree and a side: what Certify and Check ask for besides the lengths of their own buffers.
--   AtDegree n s f side d   a filter, a degree up to its taps, and a side up to 1
--   at_degree_lem               lengths, the taps and what follows them (`at_degree`), where they pass, show it
--   at_degree_passes        and it passes them
use mathlib.Core.Path.{◌≡◌}
use mathlib.Core.Bool.{true}
use mathlib.Core.List.{List, ◌++◌}
use Prim.Native.Nat.{ℕ, ◌≤◌}
use lib.Dec.{eqb}
use lib.ListN.{length}
use borrow.Author.Tests.{eq-eqb, leb-true, le-leb}
use Rattle.refusal.proofs.Verdicts.{All, all_append}
use Rattle.filter.specs.Filter.{Filter}
use Rattle.filter.specs.Checks.{taps_of, degree_up_to, side_up_to_1, filter_masks, at_degree}
use Rattle.filter.proofs.Filters.{a_filter, passes}

-- a filter, a degree up to its taps, and a side up to 1
pub record AtDegree (n : ℕ) (s f : List ℕ) (side d : ℕ) : Type 0 where
  pub filter : Filter n s f
  pub low : d ≤ n
  pub up : side ≤ 1

module _ (n : ℕ) (s f : List ℕ) (side d : ℕ) where
  -- lengths, the taps and what follows them, where they pass, show it
  pub at_degree_lem : eqb (length s) 512 ≡ true → eqb (length f) 512 ≡ true → All (taps_of n ++ at_degree n s f side d) → AtDegree n s f side d
  at_degree_lem set table (tapped, rest) =
      let (masks, (degree, (up, _))) = (all_append (filter_masks n s f) (degree_up_to d n ++ side_up_to_1 side)).0 rest in
      record { filter = a_filter n s f set table tapped masks; low = leb-true d n degree; up = leb-true side 1 up }

  -- and it passes them
  pub at_degree_passes : AtDegree n s f side d
      → (eqb (length s) 512 ≡ true) × (eqb (length f) 512 ≡ true) × All (taps_of n ++ at_degree n s f side d)
  at_degree_passes h = (
    eq-eqb (length s) 512 h.filter.set_long,
    eq-eqb (length f) 512 h.filter.table_long,
    (
      h.filter.tapped,
      (all_append (filter_masks n s f) (degree_up_to d n ++ side_up_to_1 side)).1 (passes n s f h.filter, (le-leb d n h.low, (le-leb side 1 h.up, tt))),
    ),
  )
