pub mod Blocks
pub mod Levels
pub mod Own
pub mod Samples
pub mod Unique
pub mod Witness
