-- Laws of varints, and of what is drawn from bytes.
pub mod Continued
pub mod Draws
pub mod Groups
pub mod NumberFaults
pub mod Varints
