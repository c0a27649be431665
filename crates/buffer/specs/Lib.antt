-- Bytes in a lent buffer.
pub mod Appends
