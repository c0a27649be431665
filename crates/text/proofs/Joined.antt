-- The texts of the members of a list, written one behind the other.
--   joined_snoc      the texts of the members of a list with one more at its end
--   appends_next     the text of one more member behind those of a list
use mathlib.Core.Path.{◌≡◌, sym, ap, ◌∙◌}
use mathlib.Core.List.{List, [], ◌∷◌, ◌++◌, append-nil, append_assoc}
use Prim.Native.Nat.{ℕ, ◌≤◌}
use lib.ListN.{length}
use Rattle.buffer.specs.Appends.{Appends}
use Rattle.buffer.proofs.Appending.{appends_then, appends_same}
use Rattle.text.specs.Text.{Text, joined}

-- the texts of the members of a list with one more at its end
pub joined_snoc : (f : ℕ → Text) (xs : List ℕ) (x : ℕ) → joined f (xs ++ (x ∷ [])) ≡ joined f xs ++ f x
unfolding joined
joined_snoc f [] x = append-nil (f x)
joined_snoc f (y ∷ xs) x = ap (λ z. f y ++ z) (joined_snoc f xs x) ∙ sym (append_assoc (f y) (joined f xs) (f x))

-- the text of one more member behind those of a list
pub appends_next : (f : ℕ → Text) (xs xs' : List ℕ) (x : ℕ) {t t₁ t₂ : Text} {a b c : ℕ} → a ≤ length t → xs' ≡ xs ++ (x ∷ [])
    → Appends (joined f xs) t t₁ a b → Appends (f x) t₁ t₂ b c → Appends (joined f xs') t t₂ a c
appends_next f xs xs' x inside e g h = appends_same (sym (ap (joined f) e ∙ joined_snoc f xs x)) (appends_then inside g h)
