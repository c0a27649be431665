use mathlib.Core.Path.{◌≡◌}
use lib.ListN.{length}
use Rattle.packed.specs.Packed.{unpacked}
use Rattle.certify.proofs.CertificateWords.{RowsTo}
use Rattle.certify.proofs.sums.write_certificate.Given as goal

abbrev pub invariant-loop-a : goal.invariant-loop-a
invariant-loop-a l = record {
  long : length l.certificate ≡ 4096;
  rows : RowsTo l.set l.part (unpacked l.ws) l.a l.certificate;
}
