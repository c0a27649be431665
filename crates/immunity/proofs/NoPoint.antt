-- A set without a point.
--   mask_none          a mask that marks nothing is zeros
--   ranks_none         all its ranks are 0
--   equal_at_all       so neither side differs at any degree
--   reported_none      no degree is reported
--   no_side            there is no side
--   side_degree_none   neither side has a degree of its own
--   mark_none          there is no mark
--   additions_none     there are 0 additions
--   witness_none       the witness buffers are zeros
--   kept_none          so is the mask of kept points
--   certificate_none   so is each certificate
--   annihilates_none   no polynomial is one on it
--   reported_point     a degree is reported exactly where the set has a point
--   none_empty         so where none is reported it has none
--   mark_point         there is a mark exactly there
--   own_point          some side has a degree of its own exactly there
--   side_point         there is a side exactly there
use mathlib.Core.Path.{◌≡◌, refl, sym, ap, ap₂, ◌∙◌, fun_ext}
use mathlib.Core.Logic.{◌↔◌, inl, inr}
use mathlib.Core.Bool.{Bool, true, false}
use mathlib.Core.List.Memᴰ
use mathlib.Core.List.{List, [], ◌∷◌, map}
use Rattle.std.specs.Prelude.{None, Some}
use Rattle.std.proofs.lemmas.Option.{none-some}
use Prim.Native.Nat.{ℕ, zero, suc, ◌+◌, ◌*◌, ◌/◌, ◌%◌, ◌≤◌, zero-le}
use native.Mathlib.Omega.{arith}
use lib.Dec.{eqb, leb}
use lib.ListN.{length, get_or, take, drop, replicate, drop_of_length-le}
use Rattle.cube.specs.NumberLists.{up_from, below, select, lists}
use Rattle.cube.specs.Mask.{points, HasPoint, byte, mask}
use Rattle.cube.proofs.Masks.{points_inside, has_point_says, point_or_none}
use Rattle.gf2.specs.Elimination.{take_points}
use Rattle.packed.specs.Packed.{number, zeros}
use Rattle.polynomial.specs.Polynomial.{Polynomial}
use Rattle.matrix.specs.Matrix.{eliminated, rank_of}
use Rattle.order.specs.Order.{Graded}
use Rattle.filter.specs.Sides.{pair}
use Rattle.filter.specs.Filter.{Filter}
use Rattle.filter.specs.Part.{part, both_parts}
use Rattle.filter.specs.Outside.{is_outside}
use Rattle.filter.proofs.Filters.{few_taps}
use Rattle.immunity.specs.declared.Ranks.{Ranks}
use Rattle.immunity.specs.Ranks.{no_ranks, ranks_if, ranks_up_to, additions_of}
use Rattle.immunity.specs.Mark.{twice_exceeds, mark_of}
use Rattle.immunity.specs.Annihilator.{Annihilator}
use Rattle.immunity.specs.Certificate.{row_if, sum_of, sum_if, number_at, certificate}
use Rattle.immunity.specs.Judgement.{EqualRanks, differs, either_differs, reported, side_degree, ranks_at, side_at, additions_at, summed, witness_bytes, kept_bytes}
use Rattle.immunity.proofs.FirstUpTo.{first_none}
use Rattle.immunity.proofs.Mark.{mark_exists}
use Rattle.immunity.proofs.Reported.{equal_differs, filter_reports}
use Rattle.immunity.proofs.SideDegrees.{side_equal, sides_one}

-- the same for each number
map_same : {A : Type 0} (a : A) (u k : ℕ) → map (λ i. a) (up_from u k) ≡ replicate k a
unfolding up_from
map_same a u zero = refl
map_same a u (suc k) = ap (λ xs. a ∷ xs) (map_same a (suc u) k)

-- a mask that marks nothing is zeros
pub mask_none : mask (λ u. false) ≡ zeros 512
unfolding zeros
mask_none = map_same 0 0 512

-- a sum of zeros
summed_none : (t : ℕ → ℕ) → ((x : ℕ) → t x ≡ 0) → (xs : List ℕ) → summed t xs ≡ 0
unfolding summed
summed_none t h [] = refl
summed_none t h (x ∷ xs) = omega (arith, h x, summed_none t h xs)

module _ (o : List ℕ) (n : ℕ) (s f : List ℕ) (empty : points s ≡ []) where
  -- its parts have no point
  part_none : (side : ℕ) → part side s f ≡ []
  unfolding select
  part_none side = ap (select (λ a. eqb (get_or f a 0) side)) empty

  -- the same of both
  parts_none : both_parts s f ≡ pair [] []
  parts_none = ap₂ pair (part_none 1) (part_none 0)

  -- all ranks are 0
  pub ranks_none : map (ranks_at o n s f) (below 10) ≡ replicate 10 no_ranks
  unfolding ranks_at ranks_if eliminated take_points
  ranks_none = ap₂ (λ ss ps. map (ranks_up_to o n ss ps) (below 10)) empty parts_none ∙ go
    where
      if_none : (b : Bool) → ranks_if b no_ranks ≡ no_ranks
      if_none true = refl
      if_none false = refl

      go : map (λ d. ranks_if (leb d n) no_ranks) (below 10) ≡ replicate 10 no_ranks
      go = ap (λ (g : ℕ → Ranks). map g (below 10)) (fun_ext (λ d. if_none (leb d n))) ∙ map_same no_ranks 0 10

  -- so neither side differs at any degree
  pub equal_at_all : (side d : ℕ) → EqualRanks o n s f side d
  equal_at_all side d = ap (rank_of o n d) (empty ∙ sym (part_none side))

  -- no degree is reported
  pub reported_none : reported o n s f ≡ None
  unfolding reported
  reported_none = (first_none (either_differs o n s f) n).1 (λ d l. rw ((equal_differs o n s f d 1).1 (equal_at_all 1 d), (equal_differs o n s f d 0).1 (equal_at_all 0 d)))

  -- there is no side
  pub no_side : side_at o n s f (reported o n s f) ≡ None
  unfolding side_at
  no_side = ap (side_at o n s f) reported_none

  -- neither side has a degree of its own
  pub side_degree_none : (side : ℕ) → side_degree o n s f side ≡ None
  side_degree_none side = (side_equal o n s f side).1 (λ d l. equal_at_all side d)

  -- there is no mark
  pub mark_none : mark_of o n s ≡ None
  unfolding mark_of eliminated take_points
  mark_none = (first_none (λ d. twice_exceeds (rank_of o n d (points s)) (length (points s))) n).1 (λ d l. ap (λ ss. twice_exceeds (rank_of o n d ss) (length ss)) empty)

  -- there are 0 additions
  pub additions_none : summed (additions_at o n s f) (below (n + 1)) ≡ 0
  unfolding additions_at eliminated take_points
  additions_none = summed_none (additions_at o n s f) (λ d. ap₂ (λ ss ps. additions_of o n d ss ps) empty parts_none) (below (n + 1))

  -- the witness buffers are zeros
  pub witness_none : (side : ℕ) → witness_bytes o n s f (reported o n s f) side ≡ zeros 512
  unfolding witness_bytes
  witness_none side = ap (λ x. witness_bytes o n s f x side) reported_none ∙ mask_none

  -- so is the mask of kept points
  pub kept_none : kept_bytes o n s (reported o n s f) ≡ zeros 512
  unfolding kept_bytes
  kept_none = ap (kept_bytes o n s) reported_none ∙ mask_none

  -- so is each certificate
  pub certificate_none : (side d : ℕ) → certificate o n s f side d ≡ zeros 4096
  unfolding certificate sum_if row_if is_outside lists number zeros
  certificate_none side d = ap (λ g. map g (below 4096)) (fun_ext row_none) ∙ map_same 0 0 4096
    where
      row_none : (i : ℕ) → number_at (sum_if o n d (points s) (part side s f)) i ≡ 0
      row_none i =
          ap (λ ss. number (take 64 (drop (64 * (i % 8)) (row_if (is_outside ss (part side s f) (i / 8)) (sum_of o n d (part side s f) (i / 8)))))) empty
          ∙ ap (λ xs. number (take 64 xs)) (drop_of_length-le [] {i = 64 * (i % 8)} zero-le)

  -- no polynomial is one on it
  pub annihilates_none : (side : ℕ) (p : Polynomial) → ¬ Annihilator n p (part side s f) (points s)
  annihilates_none side p h = Memᴰ.not-nil (rw empty at h.inside)

module _ {o : List ℕ} (g : Graded o) (n : ℕ) (s f : List ℕ) (filter : Filter n s f) where
  -- a degree is reported exactly where the set has a point
  pub reported_point : ((k : ℕ) × (reported o n s f ≡ Some k)) ↔ HasPoint s
  reported_point = (
    λ (k, e). elim (point_or_none s) [ inl h ↦ h | inr empty ↦ absurd (none-some k (sym (reported_none o n s f empty) ∙ e)) ],
    λ h. let (k, is, _) = filter_reports g n s f filter ((has_point_says s).1 h) in (k, is),
  )

  -- where none is reported it has none
  pub none_empty : reported o n s f ≡ None → points s ≡ []
  none_empty e = elim (point_or_none s) [ inl h ↦ (let (k, is) = reported_point.1 h in absurd (none-some k (sym e ∙ is))) | inr empty ↦ empty ]

  -- there is a mark exactly there
  pub mark_point : ((m : ℕ) × (mark_of o n s ≡ Some m)) ↔ HasPoint s
  mark_point = (
    λ (m, e). elim (point_or_none s) [ inl h ↦ h | inr empty ↦ absurd (none-some m (sym (mark_none o n s f empty) ∙ e)) ],
    λ h. mark_exists g (few_taps n s f filter) s (points_inside n s filter.set_formed) ((has_point_says s).1 h),
  )

  -- some side has a degree of its own exactly there
  pub own_point : ((side : ℕ) × (d : ℕ) × (side ≤ 1) × (side_degree o n s f side ≡ Some d)) ↔ HasPoint s
  own_point = (
    λ (side, d, _, e). elim (point_or_none s) [ inl h ↦ h | inr empty ↦ absurd (none-some d (sym (side_degree_none o n s f empty side) ∙ e)) ],
    λ h. let (k, is, r) = filter_reports g n s f filter ((has_point_says s).1 h) in let (side, l, e) = sides_one o n s f k r in (side, k, l, e),
  )

  -- there is a side exactly there
  pub side_point : ((i : ℕ) × (side_at o n s f (reported o n s f) ≡ Some i)) ↔ HasPoint s
  unfolding side_at
  side_point = (
    λ (i, e). elim (point_or_none s) [ inl h ↦ h | inr empty ↦ absurd (none-some i (sym (no_side o n s f empty) ∙ e)) ],
    λ h. let (k, is) = reported_point.1 h in (byte (differs o n s f k 1), ap (side_at o n s f) is),
  )
