pub mod Entry
pub mod Levels
pub mod Order
pub mod Quantize
pub mod Rebuild
pub mod Rescale
