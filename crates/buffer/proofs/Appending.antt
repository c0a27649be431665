-- Bytes written one behind the other. They are written behind others where the first begin inside the buffer.
--   paste_turn       a turn of the loop that writes bytes
--   appends_paste    its end
--   appends_byte     one byte is stored
--   appends_none     nothing is written
--   front_length     the length of what stands before the end of the bytes
--   appends_front    what stands there
--   appends_behind   what stands behind
--   appends_then     bytes behind others
--   appends_whole    as many bytes as the buffer has, written from its front
--   appends_same     the bytes under another name
--   appends_moved    the buffer and the place under other names
use mathlib.Core.Path.{◌≡◌, refl, sym, ap, ap₂, ◌∙◌, subst}
use mathlib.Core.List.{List, [], ◌∷◌, ◌++◌, append-nil, append_assoc}
use Prim.Native.Nat.{ℕ, ◌+◌, ◌≤◌, ◌<◌}
use native.Mathlib.Nat.{add-zero}
use native.Mathlib.Numerals.{add-one}
use native.Mathlib.Omega.{arith}
use lib.ListN.{length, get_or, set, take, drop, length-append, take-append-drop, drop_of_length-le}
use lib.Seq.{paste, paste-suc, set_split, append_snoc, take-length, length-take-le, take_at, drop-append-add, drop-drop}
use Rattle.buffer.specs.Appends.{Appends}

-- a turn of the loop that writes the bytes s
pub paste_turn : (t : List ℕ) (at : ℕ) (s t' : List ℕ) (i : ℕ) → t' ≡ paste t at s i → at + length s ≤ length t → i < length s
    → set t' (at + i) (get_or s i 0) ≡ paste t at s (i + 1)
paste_turn t at s t' i e room l = ap (λ x. set x (at + i) (get_or s i 0)) e ∙ paste-suc t at s i 0 (omega arith) l ∙ ap (paste t at s) (sym (add-one i))

-- its end
pub appends_paste : (t : List ℕ) (at : ℕ) (s t' : List ℕ) (i : ℕ) → t' ≡ paste t at s i → i ≡ length s → Appends s t t' at (at + i)
appends_paste t at s t' i e l = record {
  buffer = e ∙ ap (λ x. take at t ++ x ++ drop (at + i) t) (ap (λ k. take k s) l ∙ take-length s);
  upto = ap (λ k. at + k) l;
}

-- one byte is stored
pub appends_byte : (t : List ℕ) (at b : ℕ) → at + 1 ≤ length t → Appends (b ∷ []) t (set t at b) at (at + 1)
appends_byte t at b room = record { buffer = rw (add-one, append_snoc) (set_split t at b (omega arith)); upto = refl }

-- nothing is written
pub appends_none : (t : List ℕ) (at : ℕ) → Appends [] t t at at
appends_none t at = record {
  buffer = sym (ap (λ x. x ++ drop at t) (append-nil (take at t)) ∙ take-append-drop at t);
  upto = sym (add-zero at);
}

module _ {t : List ℕ} {a : ℕ} (inside : a ≤ length t) where
  module _ {xs t₁ : List ℕ} {b : ℕ} (f : Appends xs t t₁ a b) where
    -- the length of what stands before the end of the bytes
    front_length : length (take a t ++ xs) ≡ b
    front_length = length-append (take a t) xs ∙ ap (λ k. k + length xs) (length-take-le a t inside) ∙ sym f.upto

    -- what stands there
    pub appends_front : take b t₁ ≡ take a t ++ xs
    appends_front = ap (take b) f.buffer ∙ take_at (take a t ++ xs) (drop b t) b front_length

    -- what stands behind
    appends_behind : (k : ℕ) → drop (b + k) t₁ ≡ drop (b + k) t
    appends_behind k =
        ap₂ (λ i x. drop (i + k) x) (sym front_length) f.buffer ∙ drop-append-add (take a t ++ xs) (drop b t) k ∙ drop-drop k b t

  -- bytes behind others
  pub appends_then : {xs ys t₁ t₂ : List ℕ} {b c : ℕ} → Appends xs t t₁ a b → Appends ys t₁ t₂ b c → Appends (xs ++ ys) t t₂ a c
  appends_then {xs} {ys} {t₁} {b = b} {c = c} f g = record {
    buffer = g.buffer ∙ ap₂ (λ x y. x ++ ys ++ y) (appends_front f) behind ∙ ap (λ x. x ++ drop c t) (append_assoc (take a t) xs ys);
    upto = omega (arith, f.upto, g.upto, length-append xs ys);
  }
    where
      behind : drop c t₁ ≡ drop c t
      behind = ap (λ k. drop k t₁) g.upto ∙ appends_behind f (length ys) ∙ ap (λ k. drop k t) (sym g.upto)

-- as many bytes as the buffer has
pub appends_whole : {bs t t' : List ℕ} {b : ℕ} → length bs ≡ length t → Appends bs t t' 0 b → t' ≡ bs
appends_whole {bs} {t} {b = b} e h =
    let end : length t ≤ b = omega (arith, h.upto) in
    let past : drop b t ≡ [] = drop_of_length-le t end in
    h.buffer ∙ ap (λ rest. bs ++ rest) past ∙ append-nil bs

-- the bytes under another name
pub appends_same : {xs ys t t' : List ℕ} {a b : ℕ} → xs ≡ ys → Appends xs t t' a b → Appends ys t t' a b
appends_same {t = t} {t' = t'} {a = a} {b = b} e h = subst (λ x. Appends x t t' a b) e h

-- the buffer and the place under other names
pub appends_moved : {xs t t₁ t₂ : List ℕ} {a b c : ℕ} → t₁ ≡ t₂ → b ≡ c → Appends xs t t₂ a c → Appends xs t t₁ a b
appends_moved e f h = rw (e, f) h
