pub mod Coefficient
pub mod Distance
pub mod Entry
pub mod Kept
pub mod Refuses
pub mod Unique
pub mod Unrounded
pub mod Witness
