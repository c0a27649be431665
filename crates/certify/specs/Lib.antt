-- Certify and what it does in the workspace.
pub mod Certify
pub mod Sums
