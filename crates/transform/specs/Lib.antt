pub mod Quads
pub mod Carried
pub mod Entry
pub mod Forward
pub mod Hadamard
pub mod Inverse
pub mod Matrix
