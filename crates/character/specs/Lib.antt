pub mod Characters
pub mod Parts
pub mod Typed
