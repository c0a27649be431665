-- Laws of the answers of exported operations.
pub mod Front
