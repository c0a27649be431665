-- Certify's certificate.
--   certificate_is       where the ranks are equal, what Certify writes is the certificate, `IsCertificate`
--   is_certifies         which names points of the part whose rows sum to the row, and nothing else
--   certificate_unique   there is at most one
use mathlib.Core.Path.{◌≡◌, refl, sym, ap, ◌∙◌}
use mathlib.Core.Bool.{Bool, true, false, false≢true}
use mathlib.Core.List.{List, [], Memᴰ}
use Prim.Native.Nat.{ℕ, ◌≤◌, ◌<◌}
use native.Mathlib.Omega.{arith}
use lib.ListN.{length-map}
use Rattle.cube.specs.NumberLists.{below, Inside}
use Rattle.cube.specs.Mask.{points}
use Rattle.filter.specs.Outside.{Outside, is_outside}
use Rattle.filter.proofs.Outside.{outside_says}
use Rattle.cube.proofs.Masks.{length_from}
use Rattle.gf2.specs.Vector.{entry, Same, SumOf}
use Rattle.gf2.specs.Points.{Rising, Expresses}
use Rattle.gf2.proofs.Bits.{not_one}
use Rattle.gf2.proofs.Each.{each_member}
use Rattle.gf2.proofs.Reducing.{is_zero_lem}
use Rattle.gf2.proofs.Kept.{sum_reduced, points_independent}
use Rattle.gf2.proofs.Points.{expresses_unique}
use Rattle.gf2.proofs.Combinations.{expressed}
use Rattle.gf2.proofs.Among.{expresses_alike, expresses_kept}
use Rattle.point_rows.specs.Rows.{row, rows}
use Rattle.matrix.specs.Matrix.{eliminated}
use Rattle.filter.specs.Part.{part}
use Rattle.immunity.specs.Certificate.{named, Certifies, IsCertificate, sum_of, row_if, sum_if, certificate}
use Rattle.immunity.specs.Judgement.{EqualRanks}
use Rattle.immunity.proofs.PartPoints.{part_rising, part_among}
use Rattle.immunity.proofs.Equal.{equal_sums}
use Rattle.immunity.proofs.CertificateBits.{named_row}

-- the points that sum_of gives are kept, and their rows sum to the row of a
sum_expressed : (o : List ℕ) (n d : ℕ) (ps : List ℕ) → Rising ps → (a : ℕ) → SumOf (rows o n d ps) (row o n d a)
    → Expresses (row o n d) (eliminated o n d ps).points (sum_of o n d ps a) (row o n d a)
unfolding eliminated sum_of
sum_expressed o n d ps r a s = (expressed (row o n d) ps r (row o n d a) ((is_zero_lem _).0 ((sum_reduced (row o n d) ps (row o n d a)).1 s))).0

module _ (o : List ℕ) (n d : ℕ) (ss ps : List ℕ) (a : ℕ) where
  -- the row of a point of the set outside the part is its sum
  sum_here : Outside ss ps a → sum_if o n d ss ps a ≡ sum_of o n d ps a
  unfolding sum_if row_if
  sum_here out = rw ((outside_says ss ps a).1 out)

  -- that of any other point is empty
  sum_nowhere : ¬ Outside ss ps a → sum_if o n d ss ps a ≡ []
  unfolding sum_if row_if
  sum_nowhere h = go (is_outside ss ps a) refl
    where
      go : (b : Bool) → is_outside ss ps a ≡ b → row_if b (sum_of o n d ps a) ≡ []
      go false e = refl
      go true e = absurd (h ((outside_says ss ps a).0 e))

module _ (o : List ℕ) (n d : ℕ) (s f : List ℕ) (side : ℕ) (inside : Inside 512 (points s)) (equal : EqualRanks o n s f side d) where
  -- the part
  abbrev ps : List ℕ
  ps = part side s f

  -- the kept points of the part
  abbrev kept : List ℕ
  kept = (eliminated o n d ps).points

  -- the certificate
  abbrev written : List ℕ
  written = certificate o n s f side d

  module _ (a : ℕ) (out : Outside (points s) ps a) where
    -- the row of the point is a sum of rows of the part
    sum : SumOf (rows o n d ps) (row o n d a)
    sum = each_member (λ b. SumOf (rows o n d ps) (row o n d b)) ((equal_sums o n d (points s) ps (part_among side s f)).0 equal) out.0

    -- so its sum is of kept points
    expresses : Expresses (row o n d) kept (sum_of o n d ps a) (row o n d a)
    expresses = sum_expressed o n d ps (part_rising side s f) a sum

    -- these are below 512
    near : (q : ℕ) → 512 ≤ q → entry (sum_of o n d ps a) q ≡ false
    unfolding eliminated
    near q l = not_one _ (λ e.
        let among : Memᴰ q ps = (expresses_kept (row o n d) ps (part_rising side s f) expresses).only q e in
        omega (arith, inside q (each_member (λ b. Memᴰ b (points s)) (part_among side s f) among)))

    -- it is named
    same : Same (named written a) (sum_of o n d ps a)
    same q =
        let here : sum_if o n d (points s) ps a ≡ sum_of o n d ps a = sum_here o n d (points s) ps a out in
        named_row o n s f side d a (inside a out.0) (λ r l. ap (λ v. entry v r) here ∙ near r l) q ∙ ap (λ v. entry v q) here

    -- so kept points are named whose rows sum to its row
    names_kept : Expresses (row o n d) kept (named written a) (row o n d a)
    names_kept = expresses_alike (row o n d) (λ q. sym (same q)) expresses

  -- where the ranks are equal, what Certify writes is the certificate
  pub certificate_is : IsCertificate o n d (points s) ps written
  unfolding certificate
  certificate_is = record {
    long = length-map (below 4096) _ ∙ length_from 0 4096;
    sums = names_kept;
    others = λ a l h q.
        let none : sum_if o n d (points s) ps a ≡ [] = sum_nowhere o n d (points s) ps a h in
        named_row o n s f side d a l (λ r i. ap (λ v. entry v r) none) q ∙ ap (λ v. entry v q) none;
  }

-- the certificate certifies
pub is_certifies : {o : List ℕ} {n d : ℕ} {ss ps c : List ℕ} → Rising ps → IsCertificate o n d ss ps c → Certifies o n d ss ps c
unfolding eliminated
is_certifies {o} {n} {d} {ps = ps} r x = record {
  long = x.long;
  sums = λ a out. expresses_kept (row o n d) ps r (x.sums a out);
  others = x.others;
}

-- there is at most one certificate
pub certificate_unique : {o : List ℕ} {n d : ℕ} {ss ps b c : List ℕ} → IsCertificate o n d ss ps b → IsCertificate o n d ss ps c
    → (a : ℕ) → a < 512 → Same (named b a) (named c a)
unfolding eliminated
certificate_unique {o} {n} {d} {ss} {ps} {b} {c} x y a l = go (is_outside ss ps a) refl
  where
    go : (i : Bool) → is_outside ss ps a ≡ i → Same (named b a) (named c a)
    go false e = λ q. let out : ¬ Outside ss ps a = λ h. false≢true (sym e ∙ (outside_says ss ps a).1 h) in x.others a l out q ∙ sym (y.others a l out q)
    go true e =
        let out : Outside ss ps a = (outside_says ss ps a).0 e in
        expresses_unique (row o n d) (points_independent (row o n d) ps) (x.sums a out) (y.sums a out)
