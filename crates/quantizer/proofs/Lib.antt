pub mod Chroma
pub mod Offsets
pub mod Range
pub mod Refuses
pub mod Tables
pub mod Unique
pub mod Witness
