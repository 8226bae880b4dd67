pub mod Modes
pub mod Numbers
pub mod Sum
