-- The algebraic normal form: what Convert leaves, and turning back.
--   length_converted   converting keeps the length
--   converted_at       what is left at a number below N
--   converted_formed   what is left obeys the 0/1/0 rule
--   converted_twice    converting twice gives back every table
use mathlib.Core.Path.{◌≡◌, ap, ◌∙◌}
use mathlib.Core.Bool.{Bool, true, false}
use mathlib.Core.List.{List}
use Prim.Native.Nat.{ℕ, ◌+◌, ◌-◌, ◌≤◌, ◌<◌}
use native.Mathlib.Decide.{dec_lt}
use native.Mathlib.Omega.{arith}
use lib.Dec.{eqb}
use lib.ListN.{length, get_or, drop, length-append, length-drop, get_or-append}
use lib.Seq.{ext_get_or, get_or-append-add, get_or-drop}
use Rattle.cube.specs.Cube.{size}
use Rattle.cube.specs.Mask.{well_formed, member, byte}
use Rattle.cube.proofs.Masks.{byte_small, byte_zero, bytes_formed, byte_member, member_byte}
use Rattle.polynomial.specs.Polynomial.{value}
use Rattle.polynomial.specs.Convert.{values, converted}
use Rattle.polynomial.proofs.Value.{value_same, value_twice}
use Rattle.polynomial.proofs.Halves.{length_values, values_at}

module _ (n : ℕ) (b : List ℕ) where
  -- converting keeps the length
  pub length_converted : size n ≤ length b → length (converted n b) ≡ length b
  unfolding converted
  length_converted l = simp (length-append, length_values, length-drop) (omega arith)

  -- what is left at a number below N
  low : (a : ℕ) → a < size n → get_or (converted n b) a 0 ≡ byte (value n (member b) a)
  unfolding converted
  low a l = get_or-append (values n (member b)) (drop (size n) b) 0 a (omega (arith, length_values n (member b))) ∙ values_at n (member b) a l

  -- and from N on
  high : (a : ℕ) → size n ≤ a → get_or (converted n b) a 0 ≡ get_or b a 0
  unfolding converted
  high a l =
      let e : a ≡ length (values n (member b)) + (a - size n) = omega (arith, length_values n (member b)) in
      let f : size n + (a - size n) ≡ a = omega arith in
      ap (λ k. get_or (converted n b) k 0) e ∙ get_or-append-add (values n (member b)) (drop (size n) b) (a - size n) 0
      ∙ get_or-drop (size n) b (a - size n) 0 ∙ ap (λ k. get_or b k 0) f

  -- what is left at a number below N
  pub converted_at : (a : ℕ) → a < size n → member (converted n b) a ≡ value n (member b) a
  converted_at a l = ap (λ x. eqb x 1) (low a l) ∙ member_byte (value n (member b) a)

module _ (n : ℕ) (b : List ℕ) (formed : well_formed n b ≡ true) where
  -- what is left obeys the 0/1/0 rule
  pub converted_formed : well_formed n (converted n b) ≡ true
  converted_formed = bytes_formed (size n) (converted n b)
      (λ a l. rw (low n b a l) (small (value n (member b) a)))
      (λ a l. high n b a l ∙ byte_zero (size n) b a formed l)
    where
      small : (x : Bool) → byte x ≤ 1
      small true = omega arith
      small false = omega arith

  -- converting twice gives back every table
  pub converted_twice : size n ≤ length b → converted n (converted n b) ≡ b
  converted_twice fits =
      let long : length (converted n (converted n b)) ≡ length b =
      length_converted n (converted n b) (omega (arith, length_converted n b fits)) ∙ length_converted n b fits in
      ext_get_or 0 (converted n (converted n b)) b long (λ a l. elim (dec_lt a (size n)) [
        | yes h ↦
            low n (converted n b) a h
            ∙ ap byte (value_same n (member (converted n b)) (value n (member b)) a (converted_at n b) ∙ value_twice n (member b) a h)
            ∙ byte_member b a (byte_small (size n) b a formed)
        | no h ↦ high n (converted n b) a (omega arith) ∙ high n b a (omega arith)
      ])
