-- Laws of Check.
pub mod Checked
pub mod CheckedRows
