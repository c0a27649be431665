-- What holds of two lists, place by place.
--   Paired        R holds of the members of two lists of one length, place by place
--   paired_snoc   paired lists with one more pair
--   paired_map    from what holds of each pair, something else
--   paired_at     what holds of each pair and of the defaults holds at each place
use mathlib.Core.List.{List, [], ◌∷◌, ◌++◌}
use Prim.Native.Nat.{ℕ, zero, suc}
use lib.ListN.{get_or}

-- R holds of the members of two lists of one length, place by place
abbrev pub Paired : {A B : Type 0} → (A → B → Type 0) → List A → List B → Type 0
Paired R [] [] = Unit {0}
Paired R [] (y ∷ ys) = ⊥
Paired R (x ∷ xs) [] = ⊥
Paired R (x ∷ xs) (y ∷ ys) = R x y × Paired R xs ys

-- paired lists with one more pair
pub paired_snoc : {A B : Type 0} (R : A → B → Type 0) (xs : List A) (ys : List B) {x : A} {y : B} → Paired R xs ys → R x y
    → Paired R (xs ++ (x ∷ [])) (ys ++ (y ∷ []))
paired_snoc R [] [] ps p = (p, tt)
paired_snoc R [] (b ∷ ys) ps p = absurd ps
paired_snoc R (a ∷ xs) [] ps p = absurd ps
paired_snoc R (a ∷ xs) (b ∷ ys) ps p = (ps.0, paired_snoc R xs ys ps.1 p)

-- from what holds of each pair, something else
pub paired_map : {A B : Type 0} {R S : A → B → Type 0} → ((x : A) (y : B) → R x y → S x y)
    → (xs : List A) (ys : List B) → Paired R xs ys → Paired S xs ys
paired_map f [] [] ps = tt
paired_map f [] (b ∷ ys) ps = absurd ps
paired_map f (a ∷ xs) [] ps = absurd ps
paired_map f (a ∷ xs) (b ∷ ys) ps = (f a b ps.0, paired_map f xs ys ps.1)

-- what holds of each pair and of the defaults holds at each place
pub paired_at : {A B : Type 0} (R : A → B → Type 0) {d : A} {e : B} → R d e → (xs : List A) (ys : List B) → Paired R xs ys
    → (j : ℕ) → R (get_or xs j d) (get_or ys j e)
paired_at R p [] [] ps j = p
paired_at R p [] (b ∷ ys) ps j = absurd ps
paired_at R p (a ∷ xs) [] ps j = absurd ps
paired_at R p (a ∷ xs) (b ∷ ys) ps zero = ps.0
paired_at R p (a ∷ xs) (b ∷ ys) ps (suc j) = paired_at R p xs ys ps.1 j
