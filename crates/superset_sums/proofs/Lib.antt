-- Laws of sums over supersets.
pub mod Blocks
pub mod Steps
