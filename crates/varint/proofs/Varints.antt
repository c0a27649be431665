-- A number that is encoded is read again, and one that is read was encoded.
--   Spells s b rest   the bytes s are the bytes b, and then the bytes rest
--   spells_both       one after the other
--   varint_decoded    a number that is read was encoded, and is below 2 to the power 14
--   varint_encoded    a number below 2 to the power 14 that is encoded is read again
--   varint_short      a number below 128 has one byte
--   varint_long       another has two
--   varint_length     a number has at most two bytes
--   varint_bytes      those of a number below 2 to the power 14 are bytes
--   bytes_append      bytes after bytes are bytes
use mathlib.Core.Path.{◌≡◌, refl, sym, ap, ◌∙◌}
use mathlib.Core.Bool.{Bool, true, false}
use mathlib.Core.List.{List, [], ◌∷◌, ◌++◌, append_assoc}
use Prim.Native.Nat.{ℕ, ◌+◌, ◌-◌, ◌*◌, ◌/◌, ◌%◌, ◌≤◌, ◌<◌}
use native.Mathlib.Omega.{arith}
use native.Mathlib.Decide.{dec_lt}
use lib.Dec.{ltb, leb}
use lib.ListN.{length}
use borrow.Author.Tests.{le-ltb, ltb-true, ltb-false, leb-true, lt-ltb, le-leb}
use Rattle.refusal.specs.declared.Refusal.TheVariants.{NumberForm}
use Rattle.refusal.specs.Outcome.{accepted, ◌otherwise◌}
use Rattle.refusal.proofs.Outcomes.{not_both, check_passed}
use Rattle.varint.specs.Drawn.{◌leaving◌}
use Rattle.varint.specs.Varint.{second_group, groups, varint, encode_varint, Bytes}

-- bytes that begin with others, and what remains after those
pub record Spells (s b rest : List ℕ) : Type 0 where
  pub same : s ≡ b ++ rest
  pub bytes : Bytes rest

-- one after the other
pub spells_both : {s b rest c end : List ℕ} → Spells s b rest → Spells rest c end → Spells s (b ++ c) end
spells_both {s} {b} {rest} {c} {end} x y = record { same = x.same ∙ rw y.same (sym (append_assoc b c end)); bytes = y.bytes }

-- a number of two groups
two_groups : (x : ℕ) (s : List ℕ) {v : ℕ} {rest : List ℕ} → 128 ≤ x → x < 256 → Bytes s → second_group x s ≡ accepted (v leaving rest)
    → Spells (x ∷ s) (encode_varint v) rest × (v < 16384)
unfolding second_group encode_varint
two_groups x [] l u h e = absurd (not_both e)
two_groups x (y ∷ s) {v} {rest} l u h e =
    let low = check_passed (leb 1 y) NumberForm (ltb y 128 otherwise NumberForm ∷ []) _ _ e in
    let high = check_passed (ltb y 128) NumberForm [] _ _ low.1 in
    let a : 1 ≤ y = leb-true 1 y low.0 in
    let b : y < 128 = ltb-true y 128 high.0 in
    let value : x - 128 + 128 * y ≡ v = cc high.1 in
    let ends : s ≡ rest = cc high.1 in
    let first : 128 + v % 128 ≡ x = omega arith in
    let second : v / 128 ≡ y = omega arith in
    (record { same = rw (le-ltb v 128 (omega arith), first, second, ends); bytes = rw ends at h.1 }, omega arith)

-- a number, and its bound
pub varint_decoded : (s : List ℕ) {v : ℕ} {rest : List ℕ} → Bytes s → varint s ≡ accepted (v leaving rest) → Spells s (encode_varint v) rest × (v < 16384)
unfolding varint groups encode_varint
varint_decoded [] h e = absurd (not_both e)
varint_decoded (x ∷ s) {v} {rest} h e = go (ltb x 128) refl e
  where
    go : (t : Bool) → ltb x 128 ≡ t → groups t x s ≡ accepted (v leaving rest) → Spells (x ∷ s) (encode_varint v) rest × (v < 16384)
    go true t q =
        let value : x ≡ v = cc in
        let ends : s ≡ rest = cc in
        let small : x < 128 = ltb-true x 128 t in
        (record { same = rw (← value, t, ends); bytes = rw ends at h.1 }, omega arith)
    go false t q = two_groups x s (ltb-false x 128 t) h.0 h.1 q

-- a number of one or two groups
pub varint_encoded : (v : ℕ) (rest : List ℕ) → v < 16384 → varint (encode_varint v ++ rest) ≡ accepted (v leaving rest)
unfolding varint encode_varint groups second_group
varint_encoded v rest h = elim (dec_lt v 128) [
  | yes l ↦ rw (lt-ltb v 128 l, lt-ltb v 128 l)
  | no g ↦
      let e : 128 + v % 128 - 128 + 128 * (v / 128) ≡ v = omega arith in
      rw (le-ltb v 128 (omega arith), le-ltb (128 + v % 128) 128 (omega arith), le-leb 1 (v / 128) (omega arith), lt-ltb (v / 128) 128 (omega arith), e)
]

-- a number below 128 has one byte
pub varint_short : (v : ℕ) → v < 128 → encode_varint v ≡ v ∷ []
unfolding encode_varint
varint_short v l = rw (lt-ltb v 128 l)

-- another has two
pub varint_long : (v : ℕ) → 128 ≤ v → encode_varint v ≡ (128 + v % 128) ∷ (v / 128) ∷ []
unfolding encode_varint
varint_long v l = rw (le-ltb v 128 l)

-- a number has at most two bytes
pub varint_length : (v : ℕ) → length (encode_varint v) ≤ 2
varint_length v = elim (dec_lt v 128) [
  | yes l ↦ omega (arith, ap length (varint_short v l))
  | no g ↦ omega (arith, ap length (varint_long v (omega arith)))
]

-- those of a number below 2 to the power 14 are bytes
pub varint_bytes : (v : ℕ) → v < 16384 → Bytes (encode_varint v)
varint_bytes v h = elim (dec_lt v 128) [
  | yes l ↦ rw (varint_short v l) (omega arith, tt)
  | no g ↦ rw (varint_long v (omega arith)) (omega arith, (omega arith, tt))
]

-- bytes after bytes are bytes
pub bytes_append : (s t : List ℕ) → Bytes s → Bytes t → Bytes (s ++ t)
bytes_append [] t h k = k
bytes_append (x ∷ s) t h k = (h.0, bytes_append s t h.1 k)
