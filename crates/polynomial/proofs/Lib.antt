-- Laws of sums modulo 2, of values of polynomials, and of the algebraic normal form.
pub mod Converted
pub mod Halves
pub mod HalvesInPlace
pub mod HasDegree
pub mod Largest
pub mod Lower
pub mod NormalForm
pub mod Sums
pub mod Value
