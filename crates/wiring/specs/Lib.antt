-- Wirings.
pub mod Wiring
