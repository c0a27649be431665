-- Annihilators, ranks that differ, each side's own degree, the mark, witnesses and certificates.
pub mod Annihilator
pub mod Certificate
pub mod CertificateTest
pub mod FirstDegree
pub mod Judgement
pub mod Mark
pub mod Ranks
pub mod SameJudged
pub mod Witness
