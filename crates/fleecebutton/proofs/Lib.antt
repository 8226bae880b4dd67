pub mod Distance
pub mod OwnDc
pub mod QualitySheet
pub mod Told
pub mod Unique
pub mod Words
