pub mod Fields
pub mod Mods
pub mod Numbers
pub mod Requests
