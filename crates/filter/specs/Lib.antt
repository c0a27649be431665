-- What a filter is: its checks, its parts, and what exists for each side.
pub mod Sides
pub mod Filter
pub mod Checks
pub mod Part
pub mod Outside
