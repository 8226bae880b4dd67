pub mod Area
pub mod Coded
pub mod Rebuilt
