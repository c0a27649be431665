-- Laws of Judge.
pub mod Judging
pub mod Passed
