pub mod KeyNumbers
pub mod Lines
pub mod Output
