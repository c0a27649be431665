-- Laws of texts in a buffer, and of decimal digits.
pub mod Decimals
pub mod Joined
