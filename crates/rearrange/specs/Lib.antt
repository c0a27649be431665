-- Old points as the code lists them, and Rearrange.
pub mod OldPoints
pub mod Rearrange
