-- Laws of the matrix of points against monomials, of its eliminations in the workspace, and of Rank.
pub mod AnyOrder
pub mod Combining
pub mod Following
pub mod FullRank
pub mod KeptMask
pub mod KeptPoints
pub mod Product
pub mod RankOf
pub mod Ranked
pub mod Rising
pub mod Stored
pub mod Taking
pub mod Tallied
