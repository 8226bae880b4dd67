pub mod Back
pub mod Heads
pub mod Refuses
pub mod Unique
mod Words
pub mod Witness
