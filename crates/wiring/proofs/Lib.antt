-- Laws of wirings, and of masks with their taps rearranged.
pub mod Spread
pub mod Wirings
pub mod Tested
pub mod OldTaps
pub mod Rewired
pub mod Lengths
pub mod Named
