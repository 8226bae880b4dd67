pub mod Choice
pub mod Code
pub mod Plane
pub mod Rules
pub mod Samples
