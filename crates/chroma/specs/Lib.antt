pub mod Choice
pub mod Code
pub mod Rules
