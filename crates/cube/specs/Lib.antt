-- Points, exponents and masks.
pub mod Cube
pub mod Mask
pub mod NumberLists
