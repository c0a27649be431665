-- Laws of lists of points.
pub mod Continued
pub mod Decoded
pub mod Encoded
pub mod Faults
pub mod Lengths
pub mod ListMasks
pub mod Passed
pub mod PointsDrawn
