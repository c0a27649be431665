-- Laws of the reader of files.
pub mod Draws
pub mod Numbers
