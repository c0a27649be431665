-- Varints, and what is drawn from the bytes of a file.
pub mod Drawn
pub mod NumberFault
pub mod Varint
