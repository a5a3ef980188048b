pub mod Letters
pub mod Numerals
pub mod Parted
