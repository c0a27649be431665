-- Laws of what Rearrange answers and leaves.
pub mod Answers
pub mod Gathered
