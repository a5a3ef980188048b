pub mod Fields
pub mod Numbers
pub mod Keys
pub mod Back
