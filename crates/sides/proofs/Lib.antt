pub mod Bytes
pub mod Found
pub mod Least
pub mod Masked
pub mod Missing
pub mod Slope
pub mod Unique
pub mod Witness
