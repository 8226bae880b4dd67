pub mod Bounds
pub mod Clip
pub mod Notation
pub mod Range
pub mod Sum
