pub mod Markers
pub mod Moves
