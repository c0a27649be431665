-- What one reader draws from a file.
pub mod Progress
pub mod Reader
