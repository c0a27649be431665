-- Rows packed into numbers.
pub mod Packed
