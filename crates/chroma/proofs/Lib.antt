pub mod Bytes
pub mod Found
pub mod Least
pub mod Masked
pub mod Missing
pub mod Quarter
pub mod Unique
pub mod Witness
