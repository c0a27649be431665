-- The sentences on elimination and on Rank hold.
--   rank_words   each of them
use mathlib.Core.Path.{◌≡◌, refl, sym, ap, ◌∙◌}
use mathlib.Core.Logic.{◌↔◌}
use mathlib.Core.Bool.{true}
use mathlib.Core.List.{List, [], Memᴰ}
use Prim.Native.Nat.{ℕ, ◌≤◌}
use native.Mathlib.Omega.{arith}
use lib.Dec.{eqb}
use lib.ListN.{length, get_or, length-map}
use borrow.Author.Tests.{eqb-true, eq-eqb}
use Rattle.refusal.specs.Outcome.{accepted}
use Rattle.cube.specs.NumberLists.{up_from, cons_if, select, lists}
use Rattle.cube.specs.Cube.{Taps, within}
use Rattle.cube.specs.Mask.{well_formed, points, with_ones, mask}
use Rattle.cube.proofs.Bits.{within_bits}
use Rattle.cube.proofs.Taps.{taps_range}
use Rattle.cube.proofs.Listed.{member_select}
use Rattle.cube.proofs.Masks.{member_points, formed_says}
use Rattle.cube.proofs.MaskOf.{with_ones_mask}
use Rattle.order.specs.Order.{columns}
use Rattle.order.specs.BuiltIn.{graded}
use Rattle.order.proofs.BuiltIn.{graded_is_graded}
use Rattle.order.proofs.DegreeColumns.{member_columns}
use Rattle.order.proofs.ColumnOrder.{columns_ordered}
use Rattle.gf2.specs.Elimination.{Elimination, take_points}
use Rattle.packed.specs.Packed.{zeros}
use Rattle.packed.proofs.Clearing.{length_zeros, zeros_at}
use Rattle.gf2.proofs.Sums.{sum_zero, sum_of_none}
use Rattle.gf2.proofs.Columns.{entry_map}
use Rattle.matrix.specs.Matrix.{eliminated}
use Rattle.matrix.specs.Kept.{kept_mask}
use Rattle.matrix.specs.Rank.{Ranking, ranking}
use Rattle.matrix.proofs.RankOf.{rank_accepts, passed}
use Rattle.matrix.proofs.Rising.{points_rising}
use Rattle.filter.specs.Part.{part}
use Rattle.immunity.proofs.PartPoints.{part_rising}
use Rattle.demands.specs.Demands.{RankAccepts}
use Rattle.demands.specs.JudgementWords.{RankWords}
use Rattle.demands.proofs.Eliminations.{begins, step, kept_just, kept_rise, number_kept, as_many}
use Rattle.demands.proofs.Refusals.{rank_refuses}

-- Rank answers as many rows as are kept, and the elimination's additions, and marks its points
rank_kept : (b : List ℕ) (n d : ℕ) (r : Ranking) → RankAccepts b n d r → let e : Elimination = eliminated graded n d (points b) in
    (r.rank ≡ length e.kept) × (r.rank ≡ length e.points) × (r.additions ≡ e.additions) × (r.kept ≡ mask (lists e.points))
unfolding kept_mask
rank_kept b n d r h =
    let is : r ≡ ranking graded n d (points b) = sym (passed graded b n d 8192 512 r h).1 in
    (ap (λ (x : Ranking). x.rank) is, ap (λ (x : Ranking). x.rank) is ∙ as_many n d (points b), ap (λ (x : Ranking). x.additions) is, ap (λ (x : Ranking). x.kept) is)

-- the points of a mask
points_are : (b : List ℕ) (a : ℕ) → Memᴰ a (points b) ↔ (get_or b a 0 ≡ 1)
points_are b a = (λ m. eqb-true _ 1 ((member_points b a).0 m), λ e. (member_points b a).1 (eq-eqb _ 1 e))

-- the points of a part
part_is : (side : ℕ) (s f : List ℕ) (a : ℕ) → Memᴰ a (part side s f) ↔ ((get_or s a 0 ≡ 1) × (get_or f a 0 ≡ side))
part_is side s f a =
    let says = member_select (λ b. eqb (get_or f b 0) side) (points s) a in
    (λ m. ((points_are s a).0 (says.0 m).1, eqb-true _ side (says.0 m).0), λ h. says.1 (eq-eqb _ side h.1, (points_are s a).1 h.0))

-- the empty mask has no point
empty_points : points (zeros 512) ≡ []
unfolding zeros up_from select cons_if
empty_points = refl

-- the mask of no points is zero
no_marks : mask (lists []) ≡ zeros 512
unfolding zeros with_ones
no_marks = sym (with_ones_mask [])

-- it is accepted, and gives 0 and 0 and no kept point
empty_mask : (n d : ℕ) → Taps n → d ≤ n → RankAccepts (zeros 512) n d (record { rank = 0; additions = 0; kept = zeros 512 })
unfolding eliminated take_points kept_mask
empty_mask n d t l = rank_accepts graded (zeros 512) n d (length_zeros 512) ((taps_range n).1 t) formed l ∙ ap accepted none
  where
    formed : well_formed n (zeros 512) ≡ true
    formed = (formed_says n (zeros 512)).1 (λ a i. omega (arith, zeros_at 512 a), λ a i. zeros_at 512 a)

    none : ranking graded n d (points (zeros 512)) ≡ record { rank = 0; additions = 0; kept = zeros 512 }
    none = rw empty_points (ap (λ x. record { rank = 0; additions = 0; kept = x }) no_marks)

-- each of them
pub rank_words : RankWords
rank_words = record {
  columns_are = λ n d u l. member_columns graded_is_graded n d u l;
  columns_ordered = columns_ordered;
  row_long = λ n d a. length-map (columns graded n d) _;
  within_is = within_bits;
  row_entry = λ n d a c l. entry_map (λ u. within u a) (columns graded n d) c l;
  points_are = points_are;
  part_is = part_is;
  points_rise = points_rising;
  part_rises = part_rising;
  begins = begins;
  step = step;
  no_rows = sum_of_none;
  none_chosen = λ rs v z. sum_zero z;
  kept = kept_just;
  kept_rise = kept_rise;
  number_kept = number_kept;
  rank_kept = rank_kept;
  empty_mask = empty_mask;
  refuses = rank_refuses;
}
