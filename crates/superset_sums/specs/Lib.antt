-- Sums over supersets.
pub mod SupersetSums
