pub mod Calls
pub mod Claims
pub mod Exchanged
pub mod Square
