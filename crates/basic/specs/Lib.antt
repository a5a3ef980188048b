pub mod Facts
pub mod Built
