pub mod CodedRecord
pub mod Contents
pub mod Looks
pub mod Making
pub mod Missing
pub mod Offsets
pub mod Unique
pub mod Witness
