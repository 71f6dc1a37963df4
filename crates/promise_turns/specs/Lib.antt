pub mod Acting
pub mod Events
pub mod Turns
