pub mod Block
pub mod Entry
pub mod Laws
