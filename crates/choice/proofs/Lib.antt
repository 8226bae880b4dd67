pub mod Least
pub mod Looking
pub mod Sad
pub mod Unique
