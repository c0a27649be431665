-- Laws of Certify.
pub mod CertificateWords
pub mod Certified
pub mod Certifying
pub mod Compared
pub mod KeptSums
pub mod SumsOutside
