-- The points of a part.
--   part_inside    they are points of n taps where those of the set are
--   parts_length   those of both parts are as many as those of the set
--   part_test       whether a number is one of them, by the bytes of the set and the table
--   part_points    a mask whose bytes are those of this test has them as its points
use mathlib.Core.Path.{◌≡◌, refl, sym, ap, ◌∙◌}
use mathlib.Core.Bool.{Bool, true, not, ◌&&◌}
use mathlib.Core.List.{List}
use Prim.Native.Nat.{ℕ, zero, suc, ◌+◌, ◌≤◌, ◌<◌}
use native.Mathlib.Omega.{arith}
use lib.Dec.{eqb}
use lib.ListN.{length, get_or}
use Rattle.cube.specs.NumberLists.{below, select, Inside}
use Rattle.cube.specs.Cube.{size}
use Rattle.cube.specs.Mask.{well_formed, member, points, byte}
use Rattle.cube.proofs.Listed.{and_both, member_select, select_select, length_split}
use Rattle.cube.proofs.Masks.{values_told, byte_small}
use Rattle.cube.proofs.MaskOf.{select_same, points_mask}
use Rattle.filter.specs.Part.{part}

-- they are points of n taps where those of the set are
pub part_inside : (side m : ℕ) (s f : List ℕ) → Inside m (points s) → Inside m (part side s f)
part_inside side m s f inside a i = inside a ((member_select (λ b. eqb (get_or f b 0) side) (points s) a).0 i).1

-- a byte that is 0 or 1 is just one of them
bit_either : (x : ℕ) → x ≤ 1 → eqb x 0 ≡ not (eqb x 1)
bit_either zero l = refl
bit_either (suc zero) l = refl
bit_either (suc (suc x)) l = absurd (omega arith)

-- those of both parts are as many as those of the set
pub parts_length : (n : ℕ) (s f : List ℕ) → well_formed n f ≡ true → length (part 1 s f) + length (part 0 s f) ≡ length (points s)
parts_length n s f w = length_split _ _ (λ a. bit_either (get_or f a 0) (byte_small (size n) f a w)) (points s)

-- whether a number is one of them
abbrev pub part_test : ℕ → List ℕ → List ℕ → ℕ → Bool
part_test side s f a = member s a && eqb (get_or f a 0) side

-- two tests one after the other are both at once
select_both : (r v : ℕ → Bool) (xs : List ℕ) → select (λ a. r a && v a) xs ≡ select v (select r xs)
select_both r v xs =
    sym (select_select (λ a. r a && v a) r xs (λ a e. (and_both (r a) (v a) e).0))
    ∙ select_same (λ a. r a && v a) v (select r xs) (λ a m. ap (λ b. b && v a) ((member_select r xs a).0 m).0)

-- a mask whose bytes are those of the test has them as its points
pub part_points : (side : ℕ) (s f m : List ℕ) → length s ≡ 512 → length m ≡ 512 → ((a : ℕ) → a < 512 → get_or m a 0 ≡ byte (part_test side s f a))
    → points m ≡ part side s f
part_points side s f m l k h =
    let t : ℕ → Bool = part_test side s f in
    ap points (values_told (λ a. byte (t a)) 512 0 m k h) ∙ points_mask t ∙ select_both (member s) (λ a. eqb (get_or f a 0) side) (below 512)
    ∙ ap (λ j. select (λ a. eqb (get_or f a 0) side) (select (member s) (below j))) (sym l)
