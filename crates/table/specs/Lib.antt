pub mod Table
pub mod Told
