-- Laws of bytes written into a buffer.
pub mod Appending
