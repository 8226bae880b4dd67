pub mod Sends
pub mod Word
