pub mod Carries
pub mod Laws
mod Made
pub mod Missing
pub mod Outcome
pub mod Refuses
pub mod Unique
pub mod Witness
