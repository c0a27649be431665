-- Laws of degrees, of ranks found by columns, and of a workspace that is ready.
pub mod Cut
pub mod Degrees
pub mod Ready
