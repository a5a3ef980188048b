pub mod Told
pub mod Events
pub mod Steady
pub mod Focus
pub mod Records
pub mod Queues
