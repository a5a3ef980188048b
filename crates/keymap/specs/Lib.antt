pub mod Stored
pub mod Finding
pub mod Room
pub mod Tree
pub mod Growth
pub mod Held
pub mod Holding
