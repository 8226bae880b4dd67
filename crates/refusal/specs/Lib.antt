pub mod Faults
pub mod Number
pub mod Refuses
pub mod Tests
