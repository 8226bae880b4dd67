pub mod Calls
pub mod Coefficients
pub mod Prediction
pub mod Witness
