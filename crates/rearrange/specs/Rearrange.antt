-- Rearrange: docs/SPECIFICATION.md, 'Rearrange'.
--   Rearranged                     what Rearrange leaves: a set and a table
--   rearranged n ts s f            the set s and the table f with their taps rearranged
--   wiring_of n ts                 14: ts is a wiring of n taps
--   rearrange_checks s f n ts      the checks of Rearrange, lent the set s, the table f and the wiring ts
--   rearrange_outcome s f n ts     what Rearrange leaves: the first refusal, or the set and the table rearranged
--   outcome_of r s f               what an answer, with the set s and the table f at exit, states
--   RearrangeContract o ..         the contract of Rearrange: it answers the outcome o, and leaves what that says
--   RearrangeAccepts n s f ts x    Rearrange accepts n taps, the set s, the table f and the wiring ts, and leaves x
use Rattle.std.specs.Prelude.{◌≡◌, List, [], ◌∷◌, ◌++◌, ℕ}
use Rattle.refusal.specs.Outcome.{Outcome, accepted, Check, ◌otherwise◌, checked, left_by, outcome_by}
use Rattle.refusal.specs.Verdict.{Verdict}
use Rattle.refusal.specs.declared.Refusal.TheVariants as refusal
use Rattle.filter.specs.Checks.{taps_of, filter_lengths, filter_masks}
use Rattle.wiring.specs.Wiring.{is_wiring, rewired}

-- a set and a table
pub record Rearranged : Type 0 where
  pub set : List ℕ
  pub table : List ℕ

-- both with their taps rearranged
abbrev pub rearranged : ℕ → List ℕ → List ℕ → List ℕ → Rearranged
rearranged n ts s f = record { set = rewired n ts s; table = rewired n ts f }

-- a wiring of n taps
abbrev pub wiring_of : ℕ → List ℕ → List Check
wiring_of n ts = is_wiring n ts otherwise refusal.Wiring ∷ []

-- lengths, taps, the set's bytes, the table's bytes, the wiring
abbrev pub rearrange_checks : List ℕ → List ℕ → ℕ → List ℕ → List Check
rearrange_checks s f n ts = filter_lengths s f ++ taps_of n ++ filter_masks n s f ++ wiring_of n ts

-- the first refusal, or the set and the table rearranged
unfoldable pub rearrange_outcome : List ℕ → List ℕ → ℕ → List ℕ → Outcome Rearranged
rearrange_outcome s f n ts = checked (rearrange_checks s f n ts) (accepted (rearranged n ts s f))

-- the number of an answer, or the set and the table
abbrev pub outcome_of : Verdict → List ℕ → List ℕ → Outcome Rearranged
outcome_of r s f = outcome_by r (λ u. record { set = s; table = f })

-- what is answered, and how the set and the table are left
pub record RearrangeContract (o : Outcome Rearranged) (s s' f f' : List ℕ) (r : Verdict) : Type 0 where
  pub answers : outcome_of r s' f' ≡ o
  pub leaves_set : s' ≡ left_by o s (λ x. x.set)
  pub leaves_table : f' ≡ left_by o f (λ x. x.table)

-- Rearrange accepts n taps, the set s, the table f and the wiring ts, and leaves x
abbrev pub RearrangeAccepts : ℕ → List ℕ → List ℕ → List ℕ → Rearranged → Type 0
RearrangeAccepts n s f ts x = rearrange_outcome s f n ts ≡ accepted x
