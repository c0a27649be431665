-- Laws of rows packed into numbers.
pub mod Bitwise
pub mod Words
pub mod InTurn
pub mod Parity
pub mod Clearing
pub mod Cuts
pub mod Packing
pub mod Rows
pub mod Made
pub mod Tally
pub mod ZeroRows
