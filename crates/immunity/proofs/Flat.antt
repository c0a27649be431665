-- Ranks as numbers, stored three at a time.
--   flat_none              no degree is written yet
--   stored out k x y z     three numbers are stored in a list, from place k on
--   length_stored          which leaves its length
--   take_stored            and they stand behind the first k numbers
--   flat_next              the ranks of one degree more
--   length_flat            there are three numbers for each degree
use mathlib.Core.Path.{◌≡◌, refl, sym, ap, ◌∙◌}
use mathlib.Core.List.{List, [], ◌∷◌, ◌++◌, append_assoc}
use Prim.Native.Nat.{ℕ, suc, ◌+◌, ◌*◌, ◌<◌}
use native.Mathlib.Numerals.{add-one}
use native.Mathlib.Omega.{arith}
use lib.ListN.{length, get_or, set, take, length-set}
use lib.Seq.{take-suc, take-suc-set}
use Rattle.immunity.specs.declared.Ranks.{Ranks}
use Rattle.immunity.specs.Ranks.{no_ranks, flat}

-- no degree is written yet
pub flat_none : (out : List ℕ) (rs : List Ranks) → take (3 * 0) out ≡ flat (take 0 rs)
unfolding flat
flat_none out rs = refl

-- the numbers of ranks with one more
flat_snoc : (rs : List Ranks) (r : Ranks) → flat (rs ++ (r ∷ [])) ≡ flat rs ++ (r.set ∷ r.one ∷ r.zero ∷ [])
unfolding flat
flat_snoc [] r = refl
flat_snoc (x ∷ rs) r = ap (λ ys. x.set ∷ x.one ∷ x.zero ∷ ys) (flat_snoc rs r)

-- three numbers are stored from place k on
abbrev pub stored : List ℕ → ℕ → ℕ → ℕ → ℕ → List ℕ
stored out k x y z = set (set (set out (k + 0) x) (k + 1) y) (k + 2) z

module _ (out : List ℕ) (k x y z : ℕ) where
  -- which leaves the length
  pub length_stored : length (stored out k x y z) ≡ length out
  length_stored = length-set (set (set out (k + 0) x) (k + 1) y) (k + 2) z ∙ length-set (set out (k + 0) x) (k + 1) y ∙ length-set out (k + 0) x

  -- and they stand behind the first k numbers
  pub take_stored : k + 2 < length out → take (k + 3) (stored out k x y z) ≡ take k out ++ (x ∷ y ∷ z ∷ [])
  take_stored l =
      let e₀ : k + 0 ≡ k = omega arith in
      let e₁ : k + 1 ≡ suc k = omega arith in
      let e₂ : k + 2 ≡ suc (suc k) = omega arith in
      let e₃ : k + 3 ≡ suc (suc (suc k)) = omega arith in
      let one : List ℕ = set out k x in
      let two : List ℕ = set one (suc k) y in
      let a : take (suc k) one ≡ take k out ++ (x ∷ []) = take-suc-set out k x (omega arith) in
      let b : take (suc (suc k)) two ≡ take (suc k) one ++ (y ∷ []) = take-suc-set one (suc k) y (omega (arith, length-set out k x)) in
      let c : take (suc (suc (suc k))) (set two (suc (suc k)) z) ≡ take (suc (suc k)) two ++ (z ∷ []) =
      take-suc-set two (suc (suc k)) z (omega (arith, length-set out k x, length-set one (suc k) y)) in
      rw (e₀, e₁, e₂, e₃) (c ∙ ap (λ t. t ++ (z ∷ [])) (b ∙ ap (λ t. t ++ (y ∷ [])) a) ∙ ap (λ t. t ++ (z ∷ [])) (append_assoc (take k out) (x ∷ []) (y ∷ [])) ∙ append_assoc (take k out) (x ∷ y ∷ []) (z ∷ []))

-- the ranks of one degree more
pub flat_next : (out : List ℕ) (rs : List Ranks) (d : ℕ) → d < length rs → 3 * d + 2 < length out → take (3 * d) out ≡ flat (take d rs)
    → let r : Ranks = get_or rs d no_ranks in take (3 * (d + 1)) (stored out (3 * d) r.set r.one r.zero) ≡ flat (take (d + 1) rs)
flat_next out rs d l m e =
    let r : Ranks = get_or rs d no_ranks in
    let three : 3 * (d + 1) ≡ 3 * d + 3 = omega arith in
    ap (λ k. take k (stored out (3 * d) r.set r.one r.zero)) three
    ∙ take_stored out (3 * d) r.set r.one r.zero m
    ∙ ap (λ xs. xs ++ (r.set ∷ r.one ∷ r.zero ∷ [])) e
    ∙ sym (ap (λ k. flat (take k rs)) (add-one d) ∙ ap flat (take-suc rs d no_ranks l) ∙ flat_snoc (take d rs) r)

-- the numbers of ranks are three for each
pub length_flat : (rs : List Ranks) → length (flat rs) ≡ 3 * length rs
unfolding flat
length_flat [] = refl
length_flat (r ∷ rs) = omega (arith, length_flat rs)
