-- Laws of the filter file.
pub mod Continued
pub mod Decoded
pub mod Encoded
pub mod Faults
pub mod Longest
pub mod Marked
pub mod ReadAnswers
pub mod ValidFilter
pub mod WriteAnswers
pub mod WriteOutcome
pub mod WrittenParts
