pub mod Code
pub mod Content
pub mod Rebuild
