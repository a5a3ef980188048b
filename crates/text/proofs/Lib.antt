pub mod Decoded
pub mod Encoded
pub mod Fitting
pub mod Lossies
pub mod Readings
pub mod Rows
