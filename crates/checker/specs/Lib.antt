-- Check, and the test of a certificate's rows by sums over supersets.
pub mod Check
pub mod CheckedRows
