pub mod Encoding
pub mod Forms
pub mod Plain
pub mod Pressed
pub mod Sequences
