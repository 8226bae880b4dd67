pub mod Choice
pub mod Code
