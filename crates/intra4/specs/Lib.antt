pub mod Choice
pub mod Code
pub mod Entry
pub mod Rules
pub mod Samples
