-- What the bytes of a list of points say, and the bytes that say it.
pub mod Fault
pub mod PointList
