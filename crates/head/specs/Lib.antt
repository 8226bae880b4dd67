pub mod Entry
pub mod Heads
