pub mod Broken
pub mod Code
pub mod Decode
pub mod Slices
pub mod Walk
