-- The report of Judge.
pub mod Report
