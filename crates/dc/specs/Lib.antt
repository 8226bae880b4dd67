pub mod Dc
pub mod Entry
pub mod Path
