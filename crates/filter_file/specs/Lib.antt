-- What the bytes of a filter file say, and the bytes that say it.
pub mod Fault
pub mod File
pub mod Read
pub mod Write
