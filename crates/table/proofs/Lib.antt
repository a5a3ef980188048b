pub mod Each
pub mod Counts
mod Placed
