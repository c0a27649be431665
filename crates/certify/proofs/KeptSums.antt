-- The sums over the kept points of a part alone.
--   combines_all   combinations over the kept points are those over the whole part
--   Combined ..    what the sums of the points outside the part need, and what they then are
--   combined       combinations over the points of the part's mask of kept points give it
use mathlib.Core.Path.{◌≡◌, refl, sym, ap, ◌∙◌, subst}
use mathlib.Core.Logic.{◌↔◌}
use mathlib.Core.Bool.{Bool, true, false, false≢true}
use mathlib.Core.List.{List, map, Memᴰ}
use Prim.Native.Nat.{ℕ, ◌+◌, ◌≤◌, ◌<◌}
use native.Mathlib.Omega.{arith}
use lib.ListN.{length, take}
use lib.Pow.{pow_mono}
use Rattle.cube.specs.NumberLists.{lists, Inside}
use Rattle.cube.specs.Cube.{size}
use Rattle.cube.specs.Mask.{member, points}
use Rattle.cube.proofs.Listed.{lists_member}
use Rattle.cube.proofs.Masks.{member_points}
use Rattle.order.specs.Order.{Graded, columns}
use Rattle.gf2.specs.Vector.{Row, SumOf}
use Rattle.gf2.specs.Elimination.{Elimination, is_zero, reduce, eliminate}
use Rattle.gf2.specs.Cut.{padded}
use Rattle.gf2.proofs.Again.{again}
use Rattle.gf2.proofs.Chosen.{chosen_few}
use Rattle.gf2.proofs.Each.{each_of_map, each_member, member_each, each_map}
use Rattle.gf2.proofs.Kept.{points_among, points_chosen, rows_sums, same_sums}
use Rattle.filter.specs.Part.{part}
use Rattle.filter.specs.Outside.{is_outside}
use Rattle.filter.proofs.Outside.{outside_says}
use Rattle.point_rows.specs.Rows.{row, rows}
use Rattle.point_rows.specs.Workspace.{exponents, RowsFrom, stored}
use Rattle.matrix.specs.Matrix.{rank_of}
use Rattle.matrix.specs.Combination.{Combines, OutsidePlaces}
use Rattle.matrix.proofs.KeptMask.{points_kept}
use Rattle.matrix.proofs.Rising.{points_rising}
use Rattle.matrix.proofs.Stored.{stored_elimination}
use Rattle.immunity.specs.Certificate.{certificate}
use Rattle.immunity.proofs.Equal.{equal_sums}
use Rattle.certify.specs.Certify.{PartKept}
use Rattle.certify.specs.Sums.{Sums, NoSum, written}
use Rattle.certify.proofs.Certified.{outside_left, written_certificate}

-- the combinations over the kept points are those over all points
pub combines_all : (t t' : List Row) (c : ℕ) (qs : List ℕ) (k : ℕ) (ps : List ℕ) → Combines t t' c (eliminate (stored t c) qs).points k ps → Combines t t' c qs k ps
combines_all t t' c qs k ps h =
    let same = again (stored t c) qs in
    record {
      kept = sym same.kept ∙ h.kept;
      combinations = h.combinations ∙ ap (map (padded 512)) same.combinations;
      places = h.places ∙ ap (map (λ q. 512 + q)) same.points;
      stays = λ a out. h.stays a (λ m. out (points_among (stored t c) qs a m));
    }

-- what the sums of the points outside the part b need of the k rows that are kept in t with their places ps, and what they then are
pub record Combined (o : List ℕ) (n d : ℕ) (s b : List ℕ) (c k : ℕ) (t : List Row) (ps : List ℕ) : Type 0 where
  pub few : k ≤ length (points b)
  pub apart : OutsidePlaces ps k b
  -- nothing is left of the row of any such point: the ranks are equal, and what is written is the certificate
  pub equal : (t' : List Row) → Sums t t' c k ps s b 512 → rank_of o n d (points s) ≡ rank_of o n d (points b)
  pub written_is : (t' : List Row) → Sums t t' c k ps s b 512 → (f : List ℕ) (side : ℕ) → points b ≡ part side s f → written s b t' ≡ certificate o n s f side d
  -- something is left of one: they differ
  pub differ : NoSum t c k s b → ¬ (rank_of o n d (points s) ≡ rank_of o n d (points b))

module _ {o : List ℕ} (g : Graded o) (n d : ℕ) (most : n ≤ 9) (low : d ≤ n) (t : List Row) (there : RowsFrom (exponents o n) n t 0) (s b m : List ℕ)
    (inside-set : Inside (size n) (points s)) (among : (a : ℕ) → Memᴰ a (points b) → Memᴰ a (points s)) (kept : PartKept o n d b m)
  where
    -- the columns of the degree
    abbrev width : ℕ
    width = length (columns o n d)

    -- the points of the part are points of n taps
    inside_part : Inside (size n) (points b)
    inside_part a i = inside-set a (among a i)

    -- the points of the mask are those that elimination keeps of the part
    kept_points_lem : points m ≡ (eliminate (stored t width) (points b)).points
    kept_points_lem =
        ap points kept
        ∙ points_kept o n d (points b) most (points_rising b) inside_part
        ∙ sym (ap (λ (x : Elimination). x.points) (stored_elimination g n d most low t there (points b) inside_part))

    -- each is a point of the part
    marked_among : (a : ℕ) → Memᴰ a (points m) → Memᴰ a (points b)
    marked_among a i = points_among (stored t width) (points b) a (subst (Memᴰ a) kept_points_lem i)

    -- a point outside the part is not marked
    not_marked : (a : ℕ) → member b a ≡ false → member m a ≡ false
    not_marked a e = go (member m a) refl
      where
        go : (z : Bool) → member m a ≡ z → z ≡ false
        go true i = absurd (false≢true (sym e ∙ (member_points b a).0 (marked_among a ((member_points m a).1 i))))
        go false i = refl

    -- no more are marked than the part has
    fewer : length (points m) ≤ length (points b)
    fewer = let (choice, l, e) = points_chosen (stored t width) (points b) in omega (arith, chosen_few choice (points b), ap length e, ap length kept_points_lem)

    -- the row of a point of the part is a sum of rows of the part
    part_sum : (a : ℕ) → Memᴰ a (points b) → SumOf (rows o n d (points b)) (row o n d a)
    part_sum a i =
        each_member (λ q. SumOf (rows o n d (points b)) (row o n d q))
        ((each_of_map (SumOf (rows o n d (points b))) (row o n d) (points b)).0
        (each_map (λ v. (same_sums (row o n d) (points b) v).0) (rows o n d (points b)) (rows_sums (row o n d) (points b)))) i

    module _ (t' : List Row) (k : ℕ) (ps : List ℕ) (h : Combines t t' width (points m) k ps) where
      -- the combinations are those of the whole part
      all : Combines t t' width (points b) k ps
      all = combines_all t t' width (points b) k ps (subst (λ qs. Combines t t' width qs k ps) kept_points_lem h)

      -- the row of each point outside it is a sum just if nothing is left of it
      left : (a : ℕ) → is_outside (points s) (points b) a ≡ true
          → (is_zero (reduce (take k t') (stored t' width a)).left ≡ true) ↔ SumOf (rows o n d (points b)) (row o n d a)
      left a e = let (point, out) = (outside_says (points s) (points b) a).0 e in outside_left g n d most low t there t' (points b) k ps inside_part all a (inside-set a point) out

      -- where nothing is left of any, the row of each point of the set is a sum
      sums : ((a : ℕ) → a < 512 → is_outside (points s) (points b) a ≡ true → is_zero (reduce (take k t') (stored t' width a)).left ≡ true)
          → (a : ℕ) → Memᴰ a (points s) → SumOf (rows o n d (points b)) (row o n d a)
      sums none a i = go (lists (points b) a) refl
        where
          go : (z : Bool) → lists (points b) a ≡ z → SumOf (rows o n d (points b)) (row o n d a)
          go true e = part_sum a ((lists_member (points b) a).0 e)
          go false e =
              let out = (outside_says (points s) (points b) a).1 (i, λ j. false≢true (sym e ∙ (lists_member (points b) a).1 j)) in
              (left a out).0 (none a (omega (arith, inside-set a i, pow_mono most)) out)

      -- combinations over the points of the mask give what the sums need
      pub combined : k ≤ length (points m) → OutsidePlaces ps k m → Combined o n d s b width k t' ps
      combined small out =
          let equal-ranks = equal_sums o n d (points s) (points b) (member_each (λ a. Memᴰ a (points s)) (points b) among) in
          record {
            few = omega (arith, fewer);
            apart = λ a e. out a (not_marked a e);
            equal = λ t'' x. equal-ranks.1 (member_each (λ a. SumOf (rows o n d (points b)) (row o n d a)) (points s) (sums x.nothing_left));
            written_is = λ t'' x f side parts. written_certificate g n d most low t there s f b side t' t'' k ps parts inside-set inside_part all x;
            differ = λ x e.
                let (point, _) = (outside_says (points s) (points b) x.point).0 x.outside in
                false≢true (sym x.left ∙ (left x.point x.outside).1 (each_member (λ a. SumOf (rows o n d (points b)) (row o n d a)) (equal-ranks.0 e) point));
          }
