-- Laws of the search for a witness.
pub mod NewRow
pub mod Written
