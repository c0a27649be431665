-- The demands on the whole, and the sentences and the promises of the requests beside them.
pub mod Check
pub mod Demands
pub mod Empty
pub mod JudgementWords
pub mod Kept
pub mod Mark
pub mod NormalFormWords
pub mod Rearrange
pub mod Report
pub mod Sides
pub mod Weight
pub mod Write
