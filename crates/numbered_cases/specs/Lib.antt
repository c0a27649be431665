-- The numbered cases.
pub mod Cases
