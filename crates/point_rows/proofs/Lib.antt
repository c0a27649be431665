-- Laws of the rows of points, and of the places where they stand in the workspace.
pub mod ExponentList
pub mod Filling
pub mod PointRow
pub mod Splitting
pub mod Stored
