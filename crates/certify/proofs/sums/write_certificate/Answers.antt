-- The loop's invariant: the rows below a are those of the certificate, and the others are still 0.
use mathlib.Core.Path.{◌≡◌, sym, ◌∙◌}
use Prim.Native.Nat.{ℕ, ◌+◌}
use native.Mathlib.Omega.{arith}
use lib.ListN.{length-replicate}
use Rattle.packed.specs.Packed.{unpacked, zeros}
use Rattle.packed.proofs.Rows.{row_at}
use Rattle.certify.proofs.CertificateWords.{rows_none, rows_yes, rows_no, rows_all}
use Rattle.certify.proofs.sums.write_certificate.Goals as goal
use Rattle.certify.proofs.sums.write_certificate.Goals.{else-is_outside, then-is_outside}

pub loop-a-init : goal.loop-a-init
unfolding zeros
loop-a-init c = record { long = length-replicate {A = ℕ} 4096 0; rows = rows_none c.args.set.now c.args.part.now (unpacked c.args.ws.now) 4096 }

pub loop-a-preserved : goal.loop-a-preserved
loop-a-preserved c =
    let x = c.args in
    let a = c.loop-a.a in
    elim c.if-is_outside.branch [
      | then-is_outside w ↦ record {
        long = omega arith;
        rows = rw w.certificate-is (rows_yes x.set.now x.part.now (unpacked x.ws.now) a c.loop-a.certificate c.loop-a.invariant.rows
            (sym c.is_outside.ensures ∙ w.if-is_outside.true) w.copy_row.new.certificate
            (λ k few. w.copy_row.ensures.row_copied k few ∙ rw (w.row_of.ensures, row_at x.ws.now (512 + a) (omega arith)))
            w.copy_row.ensures.others_stay);
      }
      | else-is_outside w ↦ record {
        long = omega arith;
        rows = rw w.certificate-is (rows_no x.set.now x.part.now (unpacked x.ws.now) a c.loop-a.certificate c.loop-a.invariant.rows
            (sym c.is_outside.ensures ∙ w.if-is_outside.false));
      }
    ]

pub returns : goal.returns
returns c =
    let x = c.args in
    let all : c.loop-a.a ≡ 512 = omega arith in
    rows_all x.set.now x.part.now (unpacked x.ws.now) c.loop-a.certificate c.loop-a.invariant.long (rw (← all) c.loop-a.invariant.rows)
