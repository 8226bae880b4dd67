pub mod Differences
pub mod Entry
pub mod Never
pub mod Promised
pub mod Own
pub mod Refuses
pub mod Unique
pub mod Witness
