pub mod Chroma
pub mod Range
pub mod Tables
