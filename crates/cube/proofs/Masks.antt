-- The points of masks.
--   member_from     the numbers from one on
--   length_from     how many they are
--   from_distinct   none of them stands twice
--   below_snoc      the numbers below a bound, one number more
--   select_below    what a test keeps of the numbers below a bound, one number more
--   select_yes      the next number passes a test
--   select_no       it does not
--   select_count    a test keeps as many of the numbers below a bound as pass it
--   value_at        a list of values for the numbers below m holds the value of each at its place
--   values_told     and a list of m members that does is that list
--   marked_from b i  the numbers from i on that the mask b marks: what a scan has yet to pass
--   marked_all      from 0 on they are all
--   marked_here     a marked number is the first of them
--   marked_later    one that is not marked is passed over
--   marked_none     at the end there is none
--   select_above    those that pass a test among the numbers above one
--   marked_cons     one byte before those of a mask
--   marked_count    as many numbers are marked as bytes are 1
--   marked_few      no more than there are bytes
--   marked_any      none is marked just if no byte is 1
--   member_points   the points of a mask are those that it marks
--   byte_small      each byte of a well formed mask is 0 or 1
--   byte_zero       and from N on each is 0
--   bytes_formed    a mask with such bytes is well formed
--   formed_says     so the test of the 0/1/0 rule says what the rule says
--   member_byte     a bit as a byte, read back
--   byte_member     a byte that is 0 or 1 is that of its bit
--   points_inside   those of a well formed mask are points of n taps
--   points_distinct none of them stands twice
--   has_point_says  the test that a mask has points says that there is one
--   point_or_none   there is one, or the mask has none
--   mask_member     a mask marks what passes its test
--   points_fewer    a mask that does not mark a number below 512 marks fewer than 512
--   lists_marked    a number is listed among the points of a mask just if the mask marks it
use mathlib.Core.Path.{◌≡◌, refl, sym, ap, ◌∙◌}
use mathlib.Core.Logic.{◌↔◌, ◌⊎◌, inl, inr, ⊎_elim}
use mathlib.Core.Bool.{Bool, true, false, ◌||◌, cond, not, false≢true}
use mathlib.Core.List.{List, [], ◌∷◌, ◌++◌, map, append-nil, Memᴰ}
use Prim.Native.Nat.{ℕ, zero, suc, ◌+◌, ◌-◌, ◌≤◌, ◌<◌}
use native.Mathlib.Omega.{arith}
use native.Mathlib.Decide.{dec_lt}
use native.Mathlib.Nat.{zero-add}
use native.Mathlib.Numerals.{add-one}
use lib.Dec.{eqb, leb}
use lib.ListN.{length, get_or, length-append, length-map, get_or-eq_default}
use lib.Seq.{ext_get_or}
use borrow.Author.Tests.{eqb-true, leb-true, eq-eqb, ne_eqb, le-leb}
use Rattle.std.specs.List.{count_by, list_any}
use Rattle.std.proofs.lemmas.List.{length-map}
use Rattle.std.proofs.lemmas.List.Recursion.{is_count_by}
use Rattle.std.proofs.lemmas.List.Sums.{count_by-le-length}
use Rattle.cube.specs.NumberLists.{up_from, below, cons_if, select, lists, is_empty, Inside}
use Rattle.cube.specs.Cube.{size}
use Rattle.cube.specs.Mask.{bits_then_zeros, well_formed, WellFormed, member, marked, points, HasPoint, byte, mask}
use Rattle.cube.proofs.Count.{count_below}
use Rattle.cube.proofs.Listed.{and_both, lists_member, not_listed, member_select, select_snoc, select_fewer, Distinct, distinct_select, some_member}

-- the numbers from one on
pub member_from : (u k v : ℕ) → Memᴰ v (up_from u k) ↔ ((u ≤ v) × (v < u + k))
unfolding up_from
member_from u zero v = (λ m. absurd (mathlib.Core.List.Memᴰ.not-nil m), λ p. absurd (omega arith))
member_from u (suc k) v = go (member_from (suc u) k v)
  where
    to : (v ≡ u) ⊎ ((suc u ≤ v) × (v < suc u + k)) → (u ≤ v) × (v < u + suc k)
    to (inl e) = (omega arith, omega arith)
    to (inr p) = (omega arith, omega arith)

    go : (Memᴰ v (up_from (suc u) k) ↔ ((suc u ≤ v) × (v < suc u + k))) → Memᴰ v (u ∷ up_from (suc u) k) ↔ ((u ≤ v) × (v < u + suc k))
    go later = (
      λ m. to (⊎_elim inl (λ l. inr (later.0 l)) (mathlib.Core.List.Memᴰ.cases_cons m)),
      λ p. elim (dec_lt u v) [
        | yes l ↦ mathlib.Core.List.Memᴰ.tail (later.1 (omega arith, omega arith))
        | no l ↦ let e : v ≡ u = omega arith in mathlib.Core.List.Memᴰ.head e
      ],
    )

-- how many they are
pub length_from : (u k : ℕ) → length (up_from u k) ≡ k
unfolding up_from
length_from u zero = refl
length_from u (suc k) = ap suc (length_from (suc u) k)

-- none of them stands twice
pub from_distinct : (u k : ℕ) → Distinct (up_from u k)
unfolding up_from
from_distinct u zero = tt
from_distinct u (suc k) = (λ m. omega (arith, ((member_from (suc u) k u).0 m).0), from_distinct (suc u) k)

-- one number more at their end
from_snoc : (u k : ℕ) → up_from u (suc k) ≡ up_from u k ++ ((u + k) ∷ [])
unfolding up_from
from_snoc u zero = let e : u ≡ u + 0 = omega arith in ap (λ x. x ∷ []) e
from_snoc u (suc k) =
    let e : suc u + k ≡ u + suc k = omega arith in
    ap (λ l. u ∷ l) (from_snoc (suc u) k ∙ ap (λ x. up_from (suc u) k ++ (x ∷ [])) e)

-- one number more
pub below_snoc : (a : ℕ) → below (a + 1) ≡ below a ++ (a ∷ [])
below_snoc a = ap below (add-one a) ∙ from_snoc 0 a ∙ ap (λ x. below a ++ (x ∷ [])) (zero-add a)

-- what a test keeps of the numbers below a bound, one number more
pub select_below : (t : ℕ → Bool) (a : ℕ) → select t (below (a + 1)) ≡ select t (below a) ++ cons_if (t a) a []
select_below t a = ap (select t) (below_snoc a) ∙ select_snoc t (below a) a

-- the next number passes
pub select_yes : (t : ℕ → Bool) (a : ℕ) → t a ≡ true → select t (below (a + 1)) ≡ select t (below a) ++ (a ∷ [])
unfolding cons_if
select_yes t a e = select_below t a ∙ ap (λ z. select t (below a) ++ cons_if z a []) e

-- the next number does not pass
pub select_no : (t : ℕ → Bool) (a : ℕ) → t a ≡ false → select t (below (a + 1)) ≡ select t (below a)
unfolding cons_if
select_no t a e = select_below t a ∙ ap (λ z. select t (below a) ++ cons_if z a []) e ∙ append-nil (select t (below a))

-- as many of the numbers below a bound are kept as pass
pub select_count : (m : ℕ) (t : ℕ → Bool) → length (select t (below m)) ≡ count_below m t
unfolding count_below up_from select
select_count zero t = refl
select_count (suc m) t = ap (λ k. length (select t (below k))) (sym (add-one m)) ∙ go (t m) refl (select_count m t)
  where
    go : (b : Bool) → t m ≡ b → length (select t (below m)) ≡ count_below m t → length (select t (below (m + 1))) ≡ count_below (suc m) t
    go true e later = ap length (select_yes t m e) ∙ length-append (select t (below m)) (m ∷ []) ∙ rw (e, later) (omega arith)
    go false e later = ap length (select_no t m e) ∙ rw e later

-- a value for each of them, by place
values_from : {B : Type 0} (f : ℕ → B) (u k i : ℕ) (d : B) → i < k → get_or (map f (up_from u k)) i d ≡ f (u + i)
unfolding up_from
values_from f u zero i d l = absurd (omega arith)
values_from f u (suc k) zero d l = let e : u ≡ u + 0 = omega arith in ap f e
values_from f u (suc k) (suc i) d l = let e : suc u + i ≡ u + suc i = omega arith in values_from f (suc u) k i d (omega arith) ∙ ap f e

-- a value for each number below m, at its place
pub value_at : {B : Type 0} (f : ℕ → B) (m i : ℕ) (d : B) → i < m → get_or (map f (below m)) i d ≡ f i
value_at f m i d l = values_from f 0 m i d l ∙ ap f (zero-add i)

-- a list of m members that does is that list
pub values_told : {B : Type 0} (f : ℕ → B) (m : ℕ) (d : B) (xs : List B) → length xs ≡ m → ((i : ℕ) → i < m → get_or xs i d ≡ f i) → xs ≡ map f (below m)
values_told f m d xs long told =
    ext_get_or d xs (map f (below m)) (long ∙ sym (length-map (below m) f ∙ length_from 0 m)) (λ i h.
    let l : i < m = omega (arith, long) in
    told i l ∙ sym (value_at f m i d l))

-- the numbers from i on that a mask marks
abbrev pub marked_from : List ℕ → ℕ → List ℕ
marked_from b i = select (member b) (up_from i (length b - i))

-- from 0 on they are all
pub marked_all : (b : List ℕ) → marked b ≡ marked_from b 0
marked_all b = let z : length b ≡ length b - 0 = omega arith in ap (λ k. select (member b) (below k)) z

module _ (b : List ℕ) (i : ℕ) where
  -- a marked number is the first of them
  pub marked_here : i < length b → get_or b i 0 ≡ 1 → marked_from b i ≡ i ∷ marked_from b (i + 1)
  unfolding up_from select cons_if
  marked_here l e =
      let z : length b - i ≡ suc (length b - (i + 1)) = omega arith in
      rw (z, eq-eqb (get_or b i 0) 1 e, add-one)

  -- one that is not marked is passed over
  pub marked_later : i < length b → (get_or b i 0 ≡ 1 → ⊥) → marked_from b i ≡ marked_from b (i + 1)
  unfolding up_from select cons_if
  marked_later l e =
      let z : length b - i ≡ suc (length b - (i + 1)) = omega arith in
      rw (z, ne_eqb (get_or b i 0) 1 e, add-one)

  -- at the end there is none
  pub marked_none : length b ≤ i → marked_from b i ≡ []
  unfolding up_from select
  marked_none l = let z : length b - i ≡ 0 = omega arith in rw z

-- those that pass among the numbers above a bound are those that pass one step lower, each one more
select_above : (t : ℕ → Bool) (u k : ℕ) → select t (up_from (suc u) k) ≡ map suc (select (λ v. t (suc v)) (up_from u k))
unfolding up_from select cons_if
select_above t u zero = refl
select_above t u (suc k) = rw (select_above t (suc u) k) (go (t (suc u)) (select (λ v. t (suc v)) (up_from (suc u) k)))
  where
    go : (b : Bool) (vs : List ℕ) → cons_if b (suc u) (map suc vs) ≡ map suc (cons_if b u vs)
    go true vs = refl
    go false vs = refl

-- one byte before others
marked_cons : (x : ℕ) (b : List ℕ) → marked (x ∷ b) ≡ cons_if (eqb x 1) 0 (map suc (marked b))
unfolding up_from select
marked_cons x b = ap (cons_if (eqb x 1) 0) (select_above (member (x ∷ b)) 0 (length b))

-- as many numbers are marked as bytes are 1
pub marked_count : (b : List ℕ) → length (marked b) ≡ count_by (λ x. eqb x 1) b
unfolding up_from select cons_if
marked_count b = is_count_by (λ c. length (marked c)) (λ x. eqb x 1) refl (λ x c. rw (marked_cons x c) (go (eqb x 1) (marked c))) b
  where
    go : (t : Bool) (us : List ℕ) → length (cons_if t 0 (map suc us)) ≡ cond t (1 + length us) (length us)
    go true us = omega (arith, length-map us suc)
    go false us = length-map us suc

-- no more than there are bytes
pub marked_few : (b : List ℕ) → length (marked b) ≤ length b
marked_few b = omega (arith, marked_count b, count_by-le-length (λ x. eqb x 1) b)

-- none is marked just if no byte is 1
pub marked_any : (b : List ℕ) → is_empty (marked b) ≡ not (list_any (λ x. eqb x 1) b)
unfolding up_from select cons_if is_empty
marked_any [] = refl
marked_any (x ∷ b) = rw (marked_cons x b) (go (list_any (λ y. eqb y 1) b) (eqb x 1) (marked b) (marked_any b))
  where
    go : (q t : Bool) (us : List ℕ) → is_empty us ≡ not q → is_empty (cons_if t 0 (map suc us)) ≡ not (t || q)
    go q true us e = refl
    go q false [] e = e
    go q false (u ∷ us) e = e

-- the points of a mask are those that it marks
pub member_points : (b : List ℕ) (a : ℕ) → Memᴰ a (points b) ↔ (member b a ≡ true)
member_points b a = (λ m. ((member_select (member b) (below (length b)) a).0 m).0, λ e. (member_select (member b) (below (length b)) a).1 (e, place e))
  where
    place : member b a ≡ true → Memᴰ a (below (length b))
    place e = elim (dec_lt a (length b)) [
      | yes l ↦ (member_from 0 (length b) a).1 (omega arith, omega arith)
      | no l ↦ absurd (omega (arith, eqb-true (get_or b a 0) 1 e, get_or-eq_default b 0 {n = a} (omega arith)))
    ]

-- each byte of m bits and then zeros is 0 or 1
pub byte_small : (m : ℕ) (b : List ℕ) (i : ℕ) → bits_then_zeros m b ≡ true → get_or b i 0 ≤ 1
unfolding bits_then_zeros
byte_small m [] i w = omega arith
byte_small zero (x ∷ b) zero w = omega (arith, eqb-true x 0 (and_both _ _ w).0)
byte_small zero (x ∷ b) (suc i) w = byte_small zero b i (and_both (eqb x 0) _ w).1
byte_small (suc m) (x ∷ b) zero w = leb-true x 1 (and_both _ _ w).0
byte_small (suc m) (x ∷ b) (suc i) w = byte_small m b i (and_both (leb x 1) _ w).1

-- and from m on each is 0
pub byte_zero : (m : ℕ) (b : List ℕ) (i : ℕ) → bits_then_zeros m b ≡ true → m ≤ i → get_or b i 0 ≡ 0
unfolding bits_then_zeros
byte_zero m [] i w l = refl
byte_zero zero (x ∷ b) zero w l = eqb-true x 0 (and_both _ _ w).0
byte_zero zero (x ∷ b) (suc i) w l = byte_zero zero b i (and_both (eqb x 0) _ w).1 (omega arith)
byte_zero (suc m) (x ∷ b) zero w l = absurd (omega arith)
byte_zero (suc m) (x ∷ b) (suc i) w l = byte_zero m b i (and_both (leb x 1) _ w).1 (omega arith)

-- bytes that are 0 or 1 below m, and 0 from m on
pub bytes_formed : (m : ℕ) (b : List ℕ) → ((i : ℕ) → i < m → get_or b i 0 ≤ 1) → ((i : ℕ) → m ≤ i → get_or b i 0 ≡ 0) → bits_then_zeros m b ≡ true
unfolding bits_then_zeros
bytes_formed m [] low high = refl
bytes_formed zero (x ∷ b) low high =
    rw (eq-eqb x 0 (high 0 (omega arith))) (bytes_formed zero b (λ i l. absurd (omega arith)) (λ i l. high (suc i) (omega arith)))
bytes_formed (suc m) (x ∷ b) low high =
    rw (le-leb x 1 (low 0 (omega arith))) (bytes_formed m b (λ i l. low (suc i) (omega arith)) (λ i l. high (suc i) (omega arith)))

-- the test of the 0/1/0 rule says what the rule says
pub formed_says : (n : ℕ) (b : List ℕ) → (well_formed n b ≡ true) ↔ WellFormed n b
formed_says n b = (λ w. (λ a l. byte_small (size n) b a w, λ a l. byte_zero (size n) b a w l), λ h. bytes_formed (size n) b h.0 h.1)

-- a bit as a byte, read back
pub member_byte : (t : Bool) → eqb (byte t) 1 ≡ t
member_byte true = refl
member_byte false = refl

-- a byte that is 0 or 1 is that of its bit
pub byte_member : (b : List ℕ) (a : ℕ) → get_or b a 0 ≤ 1 → byte (member b a) ≡ get_or b a 0
byte_member b a l = go (get_or b a 0) l
  where
    go : (x : ℕ) → x ≤ 1 → byte (eqb x 1) ≡ x
    go zero l = refl
    go (suc zero) l = refl
    go (suc (suc x)) l = absurd (omega arith)

-- those of a well formed mask are points of n taps
pub points_inside : (n : ℕ) (b : List ℕ) → well_formed n b ≡ true → Inside (size n) (points b)
points_inside n b w a m = elim (dec_lt a (size n)) [
  | yes l ↦ l
  | no l ↦ absurd (omega (arith, eqb-true (get_or b a 0) 1 ((member_points b a).0 m), byte_zero (size n) b a w (omega arith)))
]

-- none of them stands twice
pub points_distinct : (b : List ℕ) → Distinct (points b)
points_distinct b = distinct_select (member b) (below (length b)) (from_distinct 0 (length b))

-- a list with a member is not empty
member_some : (xs : List ℕ) (a : ℕ) → Memᴰ a xs → is_empty xs ≡ false
unfolding is_empty
member_some [] a m = absurd (mathlib.Core.List.Memᴰ.not-nil m)
member_some (x ∷ xs) a m = refl

-- the test that a mask has points says that there is one
pub has_point_says : (b : List ℕ) → (is_empty (points b) ≡ false) ↔ HasPoint b
has_point_says b = (λ e. some_member (points b) e, λ h. member_some (points b) h.0 h.1)

-- there is one, or the mask has none
pub point_or_none : (b : List ℕ) → HasPoint b ⊎ (points b ≡ [])
point_or_none b = go (points b) refl
  where
    go : (ps : List ℕ) → points b ≡ ps → HasPoint b ⊎ (points b ≡ [])
    go [] e = inr e
    go (p ∷ ps) e = inl (p, rw e (mathlib.Core.List.Memᴰ.head refl))

-- a mask marks what passes its test
pub mask_member : (t : ℕ → Bool) (u : ℕ) → u < 512 → member (mask t) u ≡ t u
mask_member t u l = rw (value_at (λ v. byte (t v)) 512 u 0 l) (member_byte (t u))

-- a mask that does not mark a number below 512 marks fewer than 512
pub points_fewer : (b : List ℕ) (a : ℕ) → length b ≡ 512 → a < 512 → member b a ≡ false → length (points b) < 512
points_fewer b a l h e =
    let there : Memᴰ a (below (length b)) = (member_from 0 (length b) a).1 (omega arith, omega arith) in
    omega (arith, select_fewer (member b) (below (length b)) there e, length_from 0 (length b))

-- a number is listed among the points of a mask just if the mask marks it
pub lists_marked : (b : List ℕ) (a : ℕ) → lists (points b) a ≡ member b a
lists_marked b a = go (member b a) refl
  where
    go : (z : Bool) → member b a ≡ z → lists (points b) a ≡ z
    go true e = (lists_member (points b) a).1 ((member_points b a).1 e)
    go false e = not_listed (points b) a (λ m. false≢true (sym e ∙ (member_points b a).0 m))
