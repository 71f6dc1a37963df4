pub mod Turns
pub mod Callers
