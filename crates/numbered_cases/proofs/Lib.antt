-- The numbered cases hold.
pub mod Cases
