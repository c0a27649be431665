-- Refusals, their numbers, the rules behind them, the verdict of checks, the outcome of an operation and its status.
pub mod Refusal
pub mod Rule
pub mod Outcome
pub mod Status
pub mod Verdict
