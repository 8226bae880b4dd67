pub mod Coded
pub mod Decimal
pub mod Unique
