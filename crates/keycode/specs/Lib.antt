pub mod Members
pub mod Modifiers
pub mod Names
pub mod Presses
