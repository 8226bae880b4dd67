pub mod Candidates
pub mod Contents
pub mod Looks
pub mod Own
pub mod RecordFrom
pub mod Sixteen
pub mod Unique
pub mod Witness
