pub mod Held
pub mod Marker
