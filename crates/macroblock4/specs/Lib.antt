pub mod Code
pub mod Content
pub mod Inputs
pub mod Rebuild
