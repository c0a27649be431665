-- Polynomials over the field of two elements in n taps, and the algebraic normal form.
pub mod Convert
pub mod Degree
pub mod Polynomial
