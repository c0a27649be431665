-- What Hand over hands back.
pub mod HandOver
