pub mod Faults
pub mod Same
pub mod Seven
pub mod Unique
