pub mod Markers
pub mod Tables
pub mod Stays
pub mod Sizes
pub mod Fronts
