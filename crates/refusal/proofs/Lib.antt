-- Laws of outcomes, of verdicts and of rules.
pub mod Outcomes
pub mod Verdicts
pub mod Rules
