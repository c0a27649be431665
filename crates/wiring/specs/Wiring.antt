-- Wirings, and what they make of a mask: docs/SPECIFICATION.md, 'Rearrange'. Tap 1 is the highest bit.
--   Wiring n ts         ts names each of the taps 1 to n once, a permutation of 1 to n: entry i is the old tap that becomes tap i
--   names_all ts ks     each of the taps ks is named by ts, as a test
--   is_wiring n ts      ts is a wiring, as a test: n entries, and each tap among them (proofs/Tested.antt, `wiring_tested`)
--   tap n t x           tap t of the point x
--   places n ts         the bits of the taps ts
--   spread bs a         the number whose bit at entry i of bs is bit i of a, counted from the highest
--   old_point n ts a    the old point of the new point a: its tap `entry i` is tap i of a (proofs/OldTaps.antt, `old_taps`, `old_only`)
--   rewired n ts b      the mask b with its taps rearranged
--   one_if b k          1, or k + 1
--   place_of ts t       the place of t in the list ts, from 1
--   inverse n ts        the wiring that undoes ts, the inverse permutation
--   identity n          the wiring that changes nothing, the identity permutation
use Rattle.std.specs.Prelude.{◌≡◌, Bool, true, false, ◌&&◌, List, [], ◌∷◌, map, ℕ, suc, ◌-◌, ◌*◌, ◌/◌, ◌%◌, ◌^◌, ◌≤◌, ◌<◌, eqb, ltb, length, get_or}
use Rattle.std.specs.Int.Bits.{bit_or}
use Rattle.cube.specs.NumberLists.{up_from, below, lists}
use Rattle.cube.specs.Cube.{size}
use Rattle.cube.specs.Mask.{member, mask}

-- a permutation of the taps 1 to n
pub record Wiring (n : ℕ) (ts : List ℕ) : Type 0 where
  pub long : length ts ≡ n
  pub inside : (i : ℕ) → i < n → (1 ≤ get_or ts i 0) × (get_or ts i 0 ≤ n)
  pub once : (i j : ℕ) → i < n → j < n → get_or ts i 0 ≡ get_or ts j 0 → i ≡ j

-- each of a list of taps is named
unfoldable pub names_all : List ℕ → List ℕ → Bool
unfolding lists
names_all ts [] = true
names_all ts (k ∷ ks) = lists ts k && names_all ts ks

-- n entries, and each tap among them
unfoldable pub is_wiring : ℕ → List ℕ → Bool
unfolding names_all up_from
is_wiring n ts = eqb (length ts) n && names_all ts (up_from 1 n)

-- tap t of a point
abbrev pub tap : ℕ → ℕ → ℕ → ℕ
tap n t x = x / 2 ^ (n - t) % 2

-- the bits of taps
abbrev pub places : ℕ → List ℕ → List ℕ
places n ts = map (λ t. n - t) ts

-- the bits of a, from the highest, at the given places
unfoldable pub spread : List ℕ → ℕ → ℕ
spread [] a = 0
spread (b ∷ bs) a = bit_or (a / 2 ^ length bs % 2 * 2 ^ b) (spread bs a)

-- the bits of a at the places of the taps that are named
unfoldable pub old_point : ℕ → List ℕ → ℕ → ℕ
unfolding spread
old_point n ts a = spread (places n ts) a

-- the new mask marks a point a of n taps where the old one marks the point that has at tap `entry i` what a has at tap i
unfoldable pub rewired : ℕ → List ℕ → List ℕ → List ℕ
unfolding old_point
rewired n ts b = mask (λ a. ltb a (size n) && member b (old_point n ts a))

-- the first place, or a later one
unfoldable pub one_if : Bool → ℕ → ℕ
one_if true k = 1
one_if false k = suc k

-- the place of a number that stands in a list, from 1
unfoldable pub place_of : List ℕ → ℕ → ℕ
unfolding one_if
place_of [] t = 0
place_of (x ∷ xs) t = one_if (eqb x t) (place_of xs t)

-- for each tap the place at which it is named
unfoldable pub inverse : ℕ → List ℕ → List ℕ
unfolding place_of up_from
inverse n ts = map (λ k. place_of ts (suc k)) (below n)

-- each tap in its place
unfoldable pub identity : ℕ → List ℕ
unfolding up_from
identity n = map suc (below n)
