-- Orders of the exponents, and the columns of a degree.
pub mod BuiltIn
pub mod Order
