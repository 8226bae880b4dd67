pub mod Code
pub mod Entry
pub mod Errors
pub mod Means
pub mod Promises
