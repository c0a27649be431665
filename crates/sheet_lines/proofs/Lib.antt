-- Laws of the points that the sums are printed for.
pub mod OutsideTo
pub mod PointRows
