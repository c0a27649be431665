-- Judge.
pub mod Judge
