pub mod Back
pub mod Bits
pub mod Levels
pub mod Modes
pub mod Sums
pub mod Unique
