pub mod Lossy
pub mod Reading
pub mod Rows
pub mod Table
