-- Numbers that stand in a list, lists with no number twice, and their sizes.
--   and_both          both of two tests hold
--   same_test         tests that imply each other are the same
--   lists_member      the test `lists` says whether a number is a member
--   not_listed        it fails for other numbers
--   lists_here        a number that stands at place i stands from there on
--   lists_later       one that does not stands behind it, or not at all
--   lists_end         none stands behind the end
--   member_place      a member has a place
--   place_member      what has a place is a member
--   image_at          a list of images holds the image of each member at its place
--   select_cases      what holds of a list with a first number kept or left out
--   member_select     the members that a test keeps
--   select_select     of two tests the second of which is implied by the first, the first decides
--   select_all        a test that each passes keeps all
--   length_select     no more are kept than there are
--   length_split      two tests, just one of which each number passes, keep as many as there are
--   select_fewer      fewer are kept where a member does not pass
--   select_snoc       what a test keeps of a list with one number more at its end
--   select_take_yes   what a test keeps of the first numbers of a list, where the next one passes
--   select_take_no    and where it does not
--   Distinct xs       no number stands twice in the list
--   distinct_places   a list whose places hold different numbers is distinct
--   distinct_select   what a test keeps of a distinct list is distinct
--   distinct_images   the images of a distinct list are distinct where each is brought back
--   count_listed      a distinct list of numbers below m is as long as the count of its numbers
--   length_same       distinct lists of the same numbers are equally long
--   member_all        m distinct numbers below m are all of them
--   some_member       a list that is not empty has a member
--   empty_nil         a list that is empty is []
--   some_length       a list is not empty just if its length is at least 1
use mathlib.Core.Path.{◌≡◌, refl, sym, ap, subst, ◌∙◌}
use mathlib.Core.Logic.{◌↔◌, ◌⊎◌, inl, inr}
use mathlib.Core.Bool.{Bool, true, false, ◌&&◌, ◌||◌, or-true, false≢true, not}
use mathlib.Core.List.Memᴰ
use mathlib.Core.List.{List, [], ◌∷◌, ◌++◌, map, append-nil, Memᴰ}
use Prim.Native.Nat.{ℕ, zero, suc, ◌+◌, ◌≤◌, ◌<◌}
use native.Mathlib.Numerals.{add-one}
use native.Mathlib.Omega.{arith}
use lib.Dec.{eqb}
use lib.ListN.{length, get_or, take, drop, drop_of_length-le}
use lib.Seq.{take-suc, drop-cons}
use borrow.Author.Tests.{eqb-true, eq-eqb, ne_eqb}
use Rattle.cube.specs.NumberLists.{cons_if, select, lists, Inside, is_empty}
use Rattle.cube.proofs.Count.{count_below, count_none, count_same, count_more, count_full}

-- both of two tests hold
pub and_both : (a b : Bool) → (a && b) ≡ true → (a ≡ true) × (b ≡ true)
and_both true b e = (refl, e)
and_both false b e = absurd (false≢true e)

-- tests that imply each other are the same
pub same_test : (x y : Bool) → ((x ≡ true) ↔ (y ≡ true)) → x ≡ y
same_test true y h = sym (h.0 refl)
same_test false true h = h.1 refl
same_test false false h = refl

-- a list with one number more
lists_step : (x : ℕ) (xs : List ℕ) (u : ℕ) → ((lists xs u ≡ true) ↔ Memᴰ u xs) → (lists (x ∷ xs) u ≡ true) ↔ Memᴰ u (x ∷ xs)
unfolding lists
lists_step x xs u later = (λ e. to (eqb x u) refl e, λ m. back (Memᴰ.cases_cons m))
  where
    to : (b : Bool) → eqb x u ≡ b → (b || lists xs u) ≡ true → Memᴰ u (x ∷ xs)
    to true e h = Memᴰ.head (sym (eqb-true x u e))
    to false e h = Memᴰ.tail (later.0 h)

    back : (u ≡ x) ⊎ Memᴰ u xs → (eqb x u || lists xs u) ≡ true
    back (inl e) = rw (eq-eqb x u (sym e))
    back (inr m) = rw (later.1 m, or-true)

-- the test `lists` says whether a number is a member
pub lists_member : (xs : List ℕ) (u : ℕ) → (lists xs u ≡ true) ↔ Memᴰ u xs
unfolding lists
lists_member [] u = (λ e. absurd (false≢true e), λ m. absurd (Memᴰ.not-nil m))
lists_member (x ∷ xs) u = lists_step x xs u (lists_member xs u)

-- it fails for other numbers
pub not_listed : (xs : List ℕ) (u : ℕ) → ¬ Memᴰ u xs → lists xs u ≡ false
not_listed xs u n = go (lists xs u) refl
  where
    go : (b : Bool) → lists xs u ≡ b → b ≡ false
    go true e = absurd (n ((lists_member xs u).0 e))
    go false e = refl

module _ (xs : List ℕ) (i u : ℕ) where
  -- a number that stands at place i stands from there on
  pub lists_here : i < length xs → get_or xs i 0 ≡ u → lists (drop i xs) u ≡ true
  unfolding lists
  lists_here l e = rw (drop-cons xs i 0 l, eq-eqb (get_or xs i 0) u e)

  -- one that does not stands behind it, or not at all
  pub lists_later : i < length xs → (get_or xs i 0 ≡ u → ⊥) → lists (drop i xs) u ≡ lists (drop (i + 1) xs) u
  unfolding lists
  lists_later l e = rw (drop-cons xs i 0 l, ne_eqb (get_or xs i 0) u e, add-one)

  -- none stands behind the end
  pub lists_end : length xs ≤ i → lists (drop i xs) u ≡ false
  unfolding lists
  lists_end l = rw (drop_of_length-le xs l)

-- a member has a place
pub member_place : {u : ℕ} {xs : List ℕ} → Memᴰ u xs → (i : ℕ) × (i < length xs) × (get_or xs i 0 ≡ u)
member_place (Memᴰ.head e) = (0, omega arith, sym e)
member_place (Memᴰ.tail m) = let p = member_place m in (suc p.0, omega arith, p.2)

-- what has a place is a member
pub place_member : (xs : List ℕ) (i : ℕ) → i < length xs → Memᴰ (get_or xs i 0) xs
place_member [] i h = absurd (omega arith)
place_member (x ∷ xs) zero h = Memᴰ.head refl
place_member (x ∷ xs) (suc i) h = Memᴰ.tail (place_member xs i (omega arith))

-- a list of images holds the image of each member at its place
pub image_at : {B : Type 0} (f : ℕ → B) (xs : List ℕ) (i : ℕ) (d : B) → i < length xs → get_or (map f xs) i d ≡ f (get_or xs i 0)
image_at f [] i d l = absurd (omega arith)
image_at f (x ∷ xs) zero d l = refl
image_at f (x ∷ xs) (suc i) d l = image_at f xs i d (omega arith)

-- what holds of a list with a first number kept or left out
pub select_cases : (P : List ℕ → Type 0) (t : ℕ → Bool) (x : ℕ) (xs : List ℕ)
    → (t x ≡ true → P (x ∷ select t xs)) → (t x ≡ false → P (select t xs)) → P (select t (x ∷ xs))
unfolding select cons_if
select_cases P t x xs f g = go (t x) refl
  where
    go : (b : Bool) → t x ≡ b → P (cons_if b x (select t xs))
    go true e = f e
    go false e = g e

-- one member more, kept or not
select_step : (t : ℕ → Bool) (x : ℕ) (xs : List ℕ) (u : ℕ) → (Memᴰ u (select t xs) ↔ ((t u ≡ true) × Memᴰ u xs))
    → Memᴰ u (select t (x ∷ xs)) ↔ ((t u ≡ true) × Memᴰ u (x ∷ xs))
select_step t x xs u later = select_cases (λ l. Memᴰ u l ↔ ((t u ≡ true) × Memᴰ u (x ∷ xs))) t x xs
    (λ e. (λ m. first e (Memᴰ.cases_cons m), λ p. front p.0 (Memᴰ.cases_cons p.1)))
    (λ e. (λ m. more (later.0 m), λ p. rest e p.0 (Memᴰ.cases_cons p.1)))
  where
    more : (t u ≡ true) × Memᴰ u xs → (t u ≡ true) × Memᴰ u (x ∷ xs)
    more (p, m) = (p, Memᴰ.tail m)

    first : t x ≡ true → (u ≡ x) ⊎ Memᴰ u (select t xs) → (t u ≡ true) × Memᴰ u (x ∷ xs)
    first e (inl q) = (ap t q ∙ e, Memᴰ.head q)
    first e (inr m) = more (later.0 m)

    front : t u ≡ true → (u ≡ x) ⊎ Memᴰ u xs → Memᴰ u (x ∷ select t xs)
    front p (inl q) = Memᴰ.head q
    front p (inr m) = Memᴰ.tail (later.1 (p, m))

    rest : t x ≡ false → t u ≡ true → (u ≡ x) ⊎ Memᴰ u xs → Memᴰ u (select t xs)
    rest e p (inl q) = absurd (false≢true (sym e ∙ ap t (sym q) ∙ p))
    rest e p (inr m) = later.1 (p, m)

-- the members that a test keeps
pub member_select : (t : ℕ → Bool) (xs : List ℕ) (u : ℕ) → Memᴰ u (select t xs) ↔ ((t u ≡ true) × Memᴰ u xs)
unfolding select
member_select t [] u = (λ m. absurd (Memᴰ.not-nil m), λ p. absurd (Memᴰ.not-nil p.1))
member_select t (x ∷ xs) u = select_step t x xs u (member_select t xs u)

-- of two tests the second of which is implied by the first, the first decides
pub select_select : (t r : ℕ → Bool) (xs : List ℕ) → ((u : ℕ) → t u ≡ true → r u ≡ true) → select t (select r xs) ≡ select t xs
unfolding select cons_if
select_select t r [] h = refl
select_select t r (x ∷ xs) h = go (r x) refl (t x) refl (select_select t r xs h)
  where
    go : (b : Bool) → r x ≡ b → (c : Bool) → t x ≡ c → select t (select r xs) ≡ select t xs → select t (cons_if b x (select r xs)) ≡ cons_if c x (select t xs)
    go true e c q later = rw q (ap (cons_if c x) later)
    go false e true q later = absurd (false≢true (sym e ∙ h x q))
    go false e false q later = later

-- a test that each passes keeps all
pub select_all : (t : ℕ → Bool) (xs : List ℕ) → ((u : ℕ) → Memᴰ u xs → t u ≡ true) → select t xs ≡ xs
unfolding select cons_if
select_all t [] h = refl
select_all t (x ∷ xs) h = rw (h x (Memᴰ.head refl)) (ap (λ l. x ∷ l) (select_all t xs (λ u m. h u (Memᴰ.tail m))))

-- no more are kept than there are
pub length_select : (t : ℕ → Bool) (xs : List ℕ) → length (select t xs) ≤ length xs
unfolding select
length_select t [] = omega arith
length_select t (x ∷ xs) =
    let later : length (select t xs) ≤ length xs = length_select t xs in
    select_cases (λ l. length l ≤ suc (length xs)) t x xs (λ e. omega (arith, later)) (λ e. omega (arith, later))

-- two tests, just one of which each number passes, keep as many as there are
pub length_split : (t r : ℕ → Bool) → ((u : ℕ) → r u ≡ not (t u)) → (xs : List ℕ) → length (select t xs) + length (select r xs) ≡ length xs
unfolding select cons_if
length_split t r h [] = refl
length_split t r h (x ∷ xs) = rw (h x) (go (t x) (length_split t r h xs))
  where
    go : (b : Bool) → length (select t xs) + length (select r xs) ≡ length xs
        → length (cons_if b x (select t xs)) + length (cons_if (not b) x (select r xs)) ≡ suc (length xs)
    go true later = omega arith
    go false later = omega arith

-- fewer are kept where a member does not pass
pub select_fewer : (t : ℕ → Bool) (xs : List ℕ) {a : ℕ} → Memᴰ a xs → t a ≡ false → length (select t xs) < length xs
select_fewer t [] m e = absurd (Memᴰ.not-nil m)
select_fewer t (x ∷ xs) (Memᴰ.head i) e =
    select_cases (λ l. length l < suc (length xs)) t x xs (λ f. absurd (false≢true (sym e ∙ ap t i ∙ f))) (λ f. omega (arith, length_select t xs))
select_fewer t (x ∷ xs) (Memᴰ.tail m) e =
    let later : length (select t xs) < length xs = select_fewer t xs m e in
    select_cases (λ l. length l < suc (length xs)) t x xs (λ f. omega (arith, later)) (λ f. omega (arith, later))

-- what a test keeps of a list with one number more at its end
pub select_snoc : (t : ℕ → Bool) (xs : List ℕ) (x : ℕ) → select t (xs ++ (x ∷ [])) ≡ select t xs ++ cons_if (t x) x []
unfolding select cons_if
select_snoc t [] x = refl
select_snoc t (y ∷ xs) x = go (t y) (select_snoc t xs x)
  where
    go : (b : Bool) → select t (xs ++ (x ∷ [])) ≡ select t xs ++ cons_if (t x) x []
        → cons_if b y (select t (xs ++ (x ∷ []))) ≡ cons_if b y (select t xs) ++ cons_if (t x) x []
    go true later = ap (λ l. y ∷ l) later
    go false later = later

-- what a test keeps of the first numbers of a list, one number more
select_take : (t : ℕ → Bool) (xs : List ℕ) (i : ℕ) → i < length xs → select t (take (i + 1) xs) ≡ select t (take i xs) ++ cons_if (t (get_or xs i 0)) (get_or xs i 0) []
select_take t xs i l = ap (λ k. select t (take k xs)) (add-one i) ∙ ap (select t) (take-suc xs i 0 l) ∙ select_snoc t (take i xs) (get_or xs i 0)

-- the number passes
pub select_take_yes : (t : ℕ → Bool) (xs : List ℕ) (i : ℕ) → i < length xs → t (get_or xs i 0) ≡ true
    → select t (take (i + 1) xs) ≡ select t (take i xs) ++ (get_or xs i 0 ∷ [])
unfolding cons_if
select_take_yes t xs i l e = select_take t xs i l ∙ ap (λ z. select t (take i xs) ++ cons_if z (get_or xs i 0) []) e

-- it does not
pub select_take_no : (t : ℕ → Bool) (xs : List ℕ) (i : ℕ) → i < length xs → t (get_or xs i 0) ≡ false → select t (take (i + 1) xs) ≡ select t (take i xs)
unfolding cons_if
select_take_no t xs i l e = select_take t xs i l ∙ ap (λ z. select t (take i xs) ++ cons_if z (get_or xs i 0) []) e ∙ append-nil (select t (take i xs))

-- no number stands twice
abbrev pub Distinct : List ℕ → Type 0
Distinct [] = Unit {0}
Distinct (x ∷ xs) = (¬ Memᴰ x xs) × Distinct xs

-- a list whose places hold different numbers is distinct
pub distinct_places : (xs : List ℕ) → ((i j : ℕ) → i < length xs → j < length xs → get_or xs i 0 ≡ get_or xs j 0 → i ≡ j) → Distinct xs
distinct_places [] h = tt
distinct_places (x ∷ xs) h = (
  λ m. let p = member_place m in absurd (omega (arith, h 0 (suc p.0) (omega arith) (omega arith) (sym p.2))),
  distinct_places xs (λ i j l m e. omega (arith, h (suc i) (suc j) (omega arith) (omega arith) e)),
)

-- what a test keeps of a distinct list is distinct
pub distinct_select : (t : ℕ → Bool) (xs : List ℕ) → Distinct xs → Distinct (select t xs)
unfolding select
distinct_select t [] h = tt
distinct_select t (x ∷ xs) h =
    let rest : Distinct (select t xs) = distinct_select t xs h.1 in
    select_cases Distinct t x xs (λ e. (λ m. h.0 ((member_select t xs x).0 m).1, rest)) (λ e. rest)

-- the images of a distinct list are distinct where each is brought back
pub distinct_images : (f g : ℕ → ℕ) (xs : List ℕ) → ((u : ℕ) → Memᴰ u xs → g (f u) ≡ u) → Distinct xs → Distinct (map f xs)
distinct_images f g [] back h = tt
distinct_images f g (x ∷ xs) back h = (
  λ i.
      let v = Memᴰ.of_map f xs i in
      let e : v.0 ≡ x = sym (back v.0 (Memᴰ.tail v.1)) ∙ ap g v.2 ∙ back x (Memᴰ.head refl) in
      h.0 (subst (λ u. Memᴰ u xs) e v.1),
  distinct_images f g xs (λ u i. back u (Memᴰ.tail i)) h.1,
)

-- a distinct list of numbers below m is as long as the count of its numbers
pub count_listed : (m : ℕ) (xs : List ℕ) → Distinct xs → Inside m xs → count_below m (lists xs) ≡ length xs
unfolding lists
count_listed m [] h l = count_none m (lists []) (λ u. refl)
count_listed m (x ∷ xs) h l =
    count_more m x (lists xs) (l x (Memᴰ.head refl)) (not_listed xs x h.0) ∙ ap suc (count_listed m xs h.1 (λ u i. l u (Memᴰ.tail i)))

-- distinct lists of the same numbers are equally long
pub length_same : (m : ℕ) (xs ys : List ℕ) → Distinct xs → Distinct ys → Inside m ys → ((u : ℕ) → Memᴰ u xs ↔ Memᴰ u ys) → length xs ≡ length ys
length_same m xs ys h k l same =
    sym (count_listed m xs h (λ u i. l u ((same u).0 i)))
    ∙ count_same m (lists xs) (lists ys) (λ u i. same_test (lists xs u) (lists ys u) (
      λ e. (lists_member ys u).1 ((same u).0 ((lists_member xs u).0 e)),
      λ e. (lists_member xs u).1 ((same u).1 ((lists_member ys u).0 e)),
    ))
    ∙ count_listed m ys k l

-- m distinct numbers below m are all of them
pub member_all : (m : ℕ) (xs : List ℕ) → length xs ≡ m → Distinct xs → Inside m xs → (u : ℕ) → u < m → Memᴰ u xs
member_all m xs e h l u i = (lists_member xs u).0 (count_full m (lists xs) (count_listed m xs h l ∙ e) u i)

-- a list that is not empty has a member
pub some_member : (xs : List ℕ) → is_empty xs ≡ false → (a : ℕ) × Memᴰ a xs
unfolding is_empty
some_member [] e = absurd (false≢true (sym e))
some_member (x ∷ xs) e = (x, Memᴰ.head refl)

-- a list that is empty is []
pub empty_nil : (xs : List ℕ) → is_empty xs ≡ true → xs ≡ []
unfolding is_empty
empty_nil [] e = refl
empty_nil (x ∷ xs) e = absurd (false≢true e)

-- a list is not empty just if its length is at least 1
pub some_length : (xs : List ℕ) → (is_empty xs ≡ false) ↔ (1 ≤ length xs)
unfolding is_empty
some_length [] = (λ e. absurd (false≢true (sym e)), λ l. absurd (omega arith))
some_length (x ∷ xs) = (λ e. omega arith, λ l. refl)
