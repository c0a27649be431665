-- Laws of filters, of a filter at a degree, of their parts, of what lies outside them, and of what exists for each side.
pub mod AtDegree
pub mod Filters
pub mod PartPoints
pub mod Outside
pub mod Sides
