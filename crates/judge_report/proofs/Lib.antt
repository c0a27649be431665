-- Laws of the report.
pub mod Numbers
