pub mod Code
pub mod Content
pub mod Fine
pub mod Rebuild
